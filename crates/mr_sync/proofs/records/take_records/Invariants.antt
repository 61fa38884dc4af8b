use Rattle.std.proofs.Common.{◌≡◌, ◌++◌, map}
use Rattle.mr_sync.proofs.Names.{GrowsOnlyBy, Receive, TakesRecordOf, into_iter_items, replica_of}
use Rattle.mr_sync.proofs.records.take_records.Given as goal

-- the log grew by such events only, and what is taken and what is left is all; the last frame and what is lacking are as they were
abbrev pub invariant-loop-frame : goal.invariant-loop-frame
invariant-loop-frame g l = record {
  grows : GrowsOnlyBy (TakesRecordOf l.source) (replica_of l.fn.kept).log (replica_of l.kept).log;
  all : (replica_of l.kept).log ++ map Receive (into_iter_items l.frame-iterator) ≡ (replica_of l.fn.kept).log ++ map Receive l.fn.frames.items;
  last : l.arriving.last ≡ l.fn.arriving.last;
  lacking : l.arriving.lacking ≡ l.fn.arriving.lacking;
}
