use Rattle.std.proofs.Common.{◌-◌}
use Rattle.mr_concise.specs.Vector.{vector_has}
use Rattle.mr_forms.specs.Sets.{both}
use Rattle.mr_itemset.proofs.ToldWalk.{ToldTo}
use Rattle.mr_itemset.proofs.told.Difference.vector.Given as goal

-- of the authors gone through the columns have what is told
abbrev pub invariant-loop-author : goal.invariant-loop-author
invariant-loop-author l = ToldTo (vector_has l.self.all.now) (both (vector_has l.self.all.now) (vector_has l.self.own.now)) l.columns.items l.id

abbrev pub decreases-loop-author : goal.decreases-loop-author
decreases-loop-author l = 64 - l.id
