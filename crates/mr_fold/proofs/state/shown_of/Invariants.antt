use Rattle.std.proofs.Common.{◌≡◌, take}
use Rattle.mr_fold.specs.State.{shown_by}
use Rattle.mr_fold.proofs.state.shown_of.Given as goal

-- what the notes so far tell
abbrev pub invariant-loop-note : goal.invariant-loop-note
invariant-loop-note l = l.shown ≡ shown_by (take l.note-index l.notes)
