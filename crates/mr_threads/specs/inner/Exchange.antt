-- one letter with its answer
use Rattle.mr_lane.specs.declared.note.Sender.{Sender}
use Rattle.mr_threads.specs.Exchange.{Exchange}

module _ {E A : Type 0} where
  abbrev pub exchange : Sender → E → A → Exchange E A
  exchange sender letter answer = record { sender = sender; letter = letter; answer = answer }
