use Rattle.mr_concise.specs.Column.{column_has}
use Rattle.mr_concise.proofs.CoverLemmas.{HasNoneInHoles}
use Rattle.mr_concise.proofs.column_ref.ColumnRef.covers.Given as goal

abbrev pub invariant-loop-hole : goal.invariant-loop-hole
invariant-loop-hole l = HasNoneInHoles (column_has l.other) l.self.holes l.hole-index
