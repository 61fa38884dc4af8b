-- The act by which a replica does what its log says, as the numbers of frames tell it.
use Rattle.std.specs.Prelude.{◌≡◌, ◌≢◌, Option, Some, None, List}
use Rattle.mr_mail.specs.Mail.{Mail}
use Rattle.mr_model.specs.declared.event.Act.{Act}
use Rattle.mr_replica.specs.declared.event.Event.{Event as ReplicaEvent}
use Rattle.mr_wire.specs.Frames.{Question, Sent}
use Rattle.mr_wire.specs.declared.frame.Frame.TheVariants as frame
use Rattle.mr_wire.specs.declared.frame.Receipt.{Receipt}
use Rattle.mr_world.specs.Asked.{asked}
use Rattle.mr_world.specs.declared.task.Task.{Task}
use Rattle.mr_world.specs.declared.task.Task.TheVariants.{Step}
use Rattle.mr_settle.specs.inner.Numbers.{Numbering, Tells, numbering, no_numbers}
use Rattle.mr_settle.specs.declared.given.Given.{Given}

-- the numbers of each pool's frames
pub record GivenNumbers : Type 0 where
  pub asks : Numbering
  pub records : Numbering
  pub receipts : Numbering

-- the numbers that these have
abbrev pub given_by : Given → GivenNumbers
given_by g = record { asks = numbering g.asks; records = numbering g.records; receipts = numbering g.receipts }

-- no frame has a number
abbrev pub nothing_given : GivenNumbers
nothing_given = record { asks = no_numbers; records = no_numbers; receipts = no_numbers }

-- the numbers are those of these frames
pub record AreNumbersOf (asks : List Question) (records : List Sent) (receipts : List Receipt) (given : GivenNumbers) : Type 0 where
  pub of_asks : Tells (λ x. frame.Ask x) asks given.asks
  pub of_records : Tells (λ x. frame.Record x) records given.records
  pub of_receipts : Tells (λ x. frame.Receipt x) receipts given.receipts

-- the act asks for the event; or none does
abbrev pub AsksFor : (asked : Act Mail → Option Task) → ReplicaEvent → Option (Act Mail) → Type 0
AsksFor asked event (Some act) = asked act ≡ Some (Step event)
AsksFor asked event None = (act : Act Mail) → asked act ≢ Some (Step event)

-- the act asks for the event, or none does, wherever the frames that were given have these numbers
abbrev pub Names : GivenNumbers → ReplicaEvent → Option (Act Mail) → Type 0
Names given event named =
    (asks : List Question) (records : List Sent) (receipts : List Receipt) → AreNumbersOf asks records receipts given → AsksFor (asked asks records receipts) event named
