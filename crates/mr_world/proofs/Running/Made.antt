-- A world of members to which nothing has happened.
use Rattle.std.proofs.Common.{◌≡◌, List, [], Option, refl, ap, ◌∙◌, arith}
use Rattle.mr_world.proofs.Names.Lists.{AllZip}
use Rattle.mr_world.proofs.Names.Wire.{Frame}
use Rattle.mr_world.proofs.Names.Mails.{Form}
use Rattle.mr_world.proofs.Names.World.{IsMadeOf, IsMadeWorld, MemberView, PoolList, Spec, question_of, questions_in, receipt_of, receipts_in}
use Rattle.mr_world.proofs.Names.World.{sent_of, sents_in, world_view}
use Rattle.mr_world.specs.Pool.{values_in}
use Rattle.mr_world.specs.declared.answered.Answered.{Answered}

none_in : {A : Type 0} (value_of : Option Frame → Option A) → values_in value_of [] ≡ []
unfolding values_in
none_in value_of = refl

pub made_world : {K : Type 0} (form : Form K) (specs : List Spec) (ms : List (MemberView K)) (p : PoolList) (xs : List Answered) → AllZip (IsMadeOf form) specs ms → p.asks.frames ≡ [] → p.records.frames ≡ [] → p.receipts.frames ≡ [] → xs ≡ []
    → IsMadeWorld form specs (world_view ms p xs)
made_world form specs ms p xs made asks records receipts h = grind (arith, questions_in, none_in, question_of, sents_in, sent_of, receipts_in, receipt_of)
