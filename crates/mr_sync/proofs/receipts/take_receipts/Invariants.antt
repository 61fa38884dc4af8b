use Rattle.mr_sync.proofs.Names.{GrowsOnlyBy, LetsGoFor, Normal, ReleasesAll, State, into_iter_items, replica_of}
use Rattle.mr_sync.proofs.receipts.take_receipts.Given as goal

-- the log grew by such events only; and what the rest lets go, all of them let go
abbrev pub invariant-loop-frame : goal.invariant-loop-frame
invariant-loop-frame g l = record {
  grows : GrowsOnlyBy (LetsGoFor l.giver) (replica_of l.fn.kept).log (replica_of l.kept).log;
  all : (new : State Normal) → ReleasesAll l.giver (replica_of l.kept) (into_iter_items l.frame-iterator) new → ReleasesAll l.giver (replica_of l.fn.kept) l.fn.frames.items new;
}
