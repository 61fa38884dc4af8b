use Rattle.std.proofs.Common.{◌≡◌, ℕ, take}
use Rattle.mr_fold.specs.State.{meeting_at, met_by}
use Rattle.mr_fold.proofs.state.meetings_of.Given as goal

-- the last meetings that the notes so far tell
abbrev pub invariant-loop-note : goal.invariant-loop-note
invariant-loop-note l = (id : ℕ) → meeting_at l.meetings.entries id ≡ met_by (take l.note-index l.notes) id
