use Rattle.std.proofs.Common.{take}
use Rattle.mr_kept.specs.Kept.{SameJournal, replica_of}
use Rattle.mr_fold.specs.Telling.{TellsEdits, Grows}
use Rattle.mr_fold.proofs.telling.tell_edits.Given as goal

-- the log grew by the edits of the items so far, and the journal stays
abbrev pub invariant-loop-heads : goal.invariant-loop-heads
invariant-loop-heads g l = record {
  told : Grows (TellsEdits l.view (take l.heads-index l.items)) (replica_of l.fn.kept) (replica_of l.kept);
  journal : SameJournal l.fn.kept l.kept;
}
