use Rattle.std.proofs.Common.{◌-◌}
use Rattle.mr_itemset.proofs.Names.{COUNTERS_END, of_author, vector_has}
use Rattle.mr_forms.specs.Sets.{both}
use Rattle.mr_itemset.proofs.ToldWalk.{Walked}
use Rattle.mr_itemset.proofs.told.Difference.column.Given as goal

-- up to here the column has what is told
abbrev pub invariant-loop-first : goal.invariant-loop-first
invariant-loop-first l = Walked (of_author (vector_has l.self.all.now) l.author) (of_author (both (vector_has l.self.all.now) (vector_has l.self.own.now)) l.author) l.holes.items l.upto

abbrev pub decreases-loop-first : goal.decreases-loop-first
decreases-loop-first l = COUNTERS_END - l.upto
