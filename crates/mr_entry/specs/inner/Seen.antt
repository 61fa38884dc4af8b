-- what the steps of decoding answer, as values
use Rattle.std.specs.Prelude.{◌≡◌, ℕ, List, Option, Some, None, Result, Ok, Err, IfSome}
use Rattle.std.specs.Borrow.{Bor}
use Rattle.mr_replica.specs.declared.event.Event.{Event}
use Rattle.mr_entry.specs.Head.{HeadParts}
use Rattle.mr_entry.specs.Decoding.{whole_event}
use Rattle.mr_entry.specs.declared.event.fault.EventFault.{EventFault}
use Rattle.mr_entry.specs.declared.reading.HeadRead.{HeadRead}

-- the value, and what was left behind it
abbrev pub leaving : {X E : Type 0} → Result X E → List ℕ → Result (X × List ℕ) E
leaving (Ok x) left = Ok (x, left)
leaving (Err fault) left = Err fault

abbrev pub rest_seen : Result (Bor (List ℕ)) EventFault → Result (List ℕ) EventFault
rest_seen (Ok rest) = Ok rest.now
rest_seen (Err fault) = Err fault

abbrev pub kind_seen : Result (ℕ × Bor (List ℕ)) EventFault → Result (ℕ × List ℕ) EventFault
kind_seen (Ok head) = Ok (head.0, head.1.now)
kind_seen (Err fault) = Err fault

-- The event that the bytes are is kept, or not; or they are none.
abbrev pub FindsWhole : ℕ → List ℕ → Option (Option Event) → Type 0
FindsWhole kind parts None = whole_event kind parts ≡ None
FindsWhole kind parts (Some kept) = (e : Event) × (whole_event kind parts ≡ Some e) × IfSome kept (λ k. k ≡ e)

abbrev pub head_seen : Option HeadRead → Option HeadParts
head_seen None = None
head_seen (Some r) = Some (record { id = r.id; event_limit = r.event_limit; birth = r.birth; mark = r.mark; filter = r.filter.now })
