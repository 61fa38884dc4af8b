-- the task of an act, as it is looked up
use Rattle.std.specs.Prelude.{◌≡◌, ℕ, List, false, is_none, Option, Some, None, Result, Ok, Err}
use Rattle.mr_mail.specs.Mail.{Mail}
use Rattle.mr_model.specs.declared.event.Act.{Act}
use Rattle.mr_wire.specs.Grammar.{Spells}
use Rattle.mr_wire.specs.declared.frame.Frame.{Frame}
use Rattle.mr_world.specs.Pool.{PoolList, questions_in, sents_in, receipts_in}
use Rattle.mr_world.specs.declared.fault.WorldFault.{WorldFault}
use Rattle.mr_world.specs.declared.fault.WorldFault.TheVariants.{OutOfMemory, NoSuchReplica, NoSuchFrame}
use Rattle.mr_world.specs.declared.task.Task.{Task}
use Rattle.mr_world.specs.Asked.{asked}

-- what it asks by the frames of pools
abbrev pub asked_of : PoolList → Act Mail → Option Task
asked_of p = asked (questions_in p.asks.frames) (sents_in p.records.frames) (receipts_in p.receipts.frames)

-- The task is found; or there is none, since a frame isn't there; or memory is wanting, and there is one.
abbrev pub Finds : Option Task → Result Task WorldFault → Type 0
Finds o (Ok t) = o ≡ Some t
Finds o (Err OutOfMemory) = is_none o ≡ false
Finds o (Err NoSuchFrame) = o ≡ None
Finds o (Err NoSuchReplica) = ⊥

-- The frame is found, and no other is spelled there; or there is none of that number; or memory is wanting.
abbrev pub FindsFrame : Option (List ℕ) → Result Frame WorldFault → Type 0
FindsFrame o (Ok frame) = (bytes : List ℕ) × (o ≡ Some bytes) × ((f : Frame) → Spells 2 f bytes → frame ≡ f)
FindsFrame o (Err OutOfMemory) = is_none o ≡ false
FindsFrame o (Err NoSuchFrame) = o ≡ None
FindsFrame o (Err NoSuchReplica) = ⊥
