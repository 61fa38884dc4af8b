-- what replicas gave one another
use Rattle.std.specs.Prelude.{List, ◌∷◌, Ok}
use Rattle.mr_replica.specs.declared.event.Reply.TheVariants.{Asked, Gave, Vouched}
use Rattle.mr_wire.specs.Frames.{Question, Sent}
use Rattle.mr_wire.specs.declared.frame.Receipt.{Receipt}
use Rattle.mr_world.specs.declared.answer.Answer.{Answer}
use Rattle.mr_world.specs.declared.answer.Answer.TheVariants.{Stepped}

-- all requests, records and receipts so far: each pool has the newest first, and numbers what it has from 1, the oldest
pub record GivenLists : Type 0 where
  pub asks : List Question
  pub records : List Sent
  pub receipts : List Receipt

-- the pools with what an answer gave
abbrev pub with_given : GivenLists → Answer → GivenLists
with_given lists (Stepped (Ok (Asked question))) = record lists { asks = question ∷ lists.asks }
with_given lists (Stepped (Ok (Gave sent))) = record lists { records = sent ∷ lists.records }
with_given lists (Stepped (Ok (Vouched receipt))) = record lists { receipts = receipt ∷ lists.receipts }
with_given lists answer = lists
