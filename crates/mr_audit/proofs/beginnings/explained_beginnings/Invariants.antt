use Rattle.std.specs.List.{AllZip}
use Rattle.mr_settle.specs.Explains.{AreDistinct}
use Rattle.mr_audit.specs.Beginning.{IsBeginning}
use Rattle.mr_audit.specs.inner.Beginning.{event_count}
use Rattle.mr_audit.proofs.beginnings.explained_beginnings.Given as goal

abbrev pub invariant-loop-starts : goal.invariant-loop-starts
invariant-loop-starts g l = record {
  beginnings : AllZip (IsBeginning g.K.Knowledge.form) l.fn.ends.items l.starts.items;
  distinct : AreDistinct l.starts.items;
}

abbrev pub decreases-loop-starts : goal.decreases-loop-starts
decreases-loop-starts g l = event_count l.starts.items
