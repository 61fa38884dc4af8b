-- a log has at most one event more than its limit
use Rattle.std.proofs.Common.{◌≡◌, ◌⊎◌, ⊎_elim, ℕ, ◌+◌, ◌≤◌, ◌<◌, true, false, List, [], ◌∷◌, length, None, sym, subst, arith}
use Rattle.mr_kept.proofs.Names.{Admits, AdmitsAll, Changes, ClauseParts, Event, Form, Frame, LogFull}
use Rattle.mr_kept.proofs.Names.{Receive, Replays, Reply, Retire, State, false≢true, first_refusal, leb-false}
use Rattle.mr_kept.proofs.Names.{length-append, nat_le, step_changes, step_log, step_replied, step_setting}
use Rattle.mr_replica.specs.Admission.{log_full}
use Rattle.mr_replica.proofs.Choice.{first_none, later_none, not_refused}

module _ {K : Type 0} where
  -- the log has room for one event more, or the replica has retired by its last
  abbrev pub HasRoom : State K → Type 0
  HasRoom s = (length s.log ≤ s.event_limit) ⊎ ((s.is_retired ≡ true) × (length s.log ≤ s.event_limit + 1))

  within : (s : State K) → HasRoom s → length s.log ≤ s.event_limit + 1
  within s h = grind arith

  not_full : (s : State K) → log_full s ≡ None → length s.log < s.event_limit
  not_full s h = leb-false s.event_limit (length s.log) (not_refused (nat_le s.event_limit (length s.log)) LogFull h)

module _ {K : Type 0} (form : Form K) where
  frame_full : (s : State K) (f : Frame) → first_refusal s (Receive f) ≡ None → log_full s ≡ None
  frame_full s f h = grind (arith, later_none)

  -- only a Retire is admitted where the log is full
  full_or_retire : (s : State K) (event : Event) → first_refusal s event ≡ None → (log_full s ≡ None) ⊎ ((event ≡ Retire) × (s.is_retired ≡ false))
  full_or_retire s event h = grind (arith, later_none, not_refused, first_none, frame_full)

  retires : (s new : State K) (told : Reply) → Changes form s Retire told new → new.is_retired ≡ true
  retires s new told h = grind arith

  step_room : (s new : State K) (event : Event) → HasRoom s → Admits form s event new → HasRoom new
  step_room s new event room h = grind (arith, step_log, length-append, step_setting, ⊎_elim, not_full, retires, step_changes, false≢true, full_or_retire, step_replied)

  all_room : (s new : State K) (events : List Event) → HasRoom s → AdmitsAll form s events new → HasRoom new
  all_room s new [] room h = subst (λ (z : State K). HasRoom z) (sym h) room
  all_room s new (event ∷ events) room h = all_room h.0 new events (step_room s h.0 event room h.1) h.2

  -- so many events has a log that was replayed
  pub replayed_few : (id : ℕ) (filter : List ClauseParts) (event_limit : ℕ) (events : List Event) (s : State K) → Replays form id filter event_limit events s → length s.log ≤ s.event_limit + 1
  replayed_few id filter event_limit events s h = grind (arith, within, all_room)
