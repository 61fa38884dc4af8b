-- What an act asks of its replica, or of one of the replica's ports.
use Rattle.std.specs.Prelude.{nat_lt, ℕ, if◌then◌else◌, Option, Some, List, length}
use Rattle.std.specs.Option.{option_map}
use Rattle.mr_mail.specs.Mail.{Mail}
use Rattle.mr_model.specs.Moment.{numbered}
use Rattle.mr_model.specs.declared.event.Act.{Act}
use Rattle.mr_model.specs.declared.event.Act.TheVariants as act
use Rattle.mr_replica.specs.declared.event.Event.TheVariants as replica
use Rattle.mr_wire.specs.Frames.{Question, Sent}
use Rattle.mr_wire.specs.FrameSpelling.{frame_bytes}
use Rattle.mr_wire.specs.declared.frame.Frame.TheVariants as frame
use Rattle.mr_wire.specs.declared.frame.Receipt.{Receipt}
use Rattle.mr_world.specs.declared.task.Task.{Task}
use Rattle.mr_world.specs.declared.task.Task.TheVariants.{Step, Truncated, Offer, Take, Close}

-- how many bytes the record's frame has
abbrev pub record_len : Sent → ℕ
record_len sent = length (frame_bytes 2 (frame.Record sent))

-- a record comes, whole
abbrev pub receiving : Sent → Task
receiving sent = Step (replica.Receive (frame.Record sent))

-- so many bytes of a record come: fewer than its frame has are a part, and no more than that
abbrev pub delivering : (bytes : ℕ) → Sent → Task
delivering bytes sent = if nat_lt bytes (record_len sent) then Truncated else receiving sent

-- a request comes
abbrev pub answering : Question → Task
answering question = Step (replica.Answer question)

-- a receipt comes
abbrev pub releasing : Receipt → Task
releasing receipt = Step (replica.Release receipt)

module _ (asks : List Question) (records : List Sent) (receipts : List Receipt) where
  -- what the act asks, with the frame that it names; nothing where that isn't there
  abbrev pub asked : Act Mail → Option Task
  asked (act.Create message) = Some (Step (replica.Create message))
  asked (act.Edit bases message) = Some (Step (replica.Edit bases message))
  asked act.Retire = Some (Step replica.Retire)
  asked act.Pull = Some (Step replica.Pull)
  asked (act.Receive n) = option_map receiving (numbered records n)
  asked (act.DeliverPart n bytes) = option_map (delivering bytes) (numbered records n)
  asked (act.CutIn session) = Some (Step (replica.CutIn session))
  asked (act.Answer n) = option_map answering (numbered asks n)
  asked (act.Next stream) = Some (Step (replica.Next stream))
  asked (act.CutOut stream) = Some (Step (replica.CutOut stream))
  asked (act.Offer u) = Some (Offer u)
  asked (act.Take u) = Some (Take u)
  asked (act.Close u) = Some (Close u)
  asked (act.Vouch version) = Some (Step (replica.Vouch version))
  asked (act.Release n) = option_map releasing (numbered receipts n)
