use Rattle.std.proofs.Common.{arith}
use Rattle.mr_filter.specs.Filter.{IsClause}
use Rattle.mr_filter.specs.inner.Draft.{no_condition}
use Rattle.mr_filter.proofs.LabelLemmas.{IsLabelSet-none}
use Rattle.mr_filter.proofs.draft.Draft.new.Goals as goal

empty : IsClause no_condition
empty = record { wanted = IsLabelSet-none; barred = IsLabelSet-none; few = omega arith; on_in = omega arith; off_in = omega arith; since_in = omega arith }

pub invariant_of-result : goal.invariant_of-result
invariant_of-result c = rw (c.new.ensures, c.new-2.ensures, c.empty.ensures, c.empty-2.ensures, c.new-3.ensures) empty

pub returns-clause-kept : goal.returns-clause-kept
returns-clause-kept c = rw (c.new.ensures, c.new-2.ensures, c.empty.ensures, c.empty-2.ensures, c.new-3.ensures) empty
