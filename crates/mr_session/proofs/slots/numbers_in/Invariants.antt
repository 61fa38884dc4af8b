use Rattle.std.proofs.Common.{◌≡◌, ◌++◌, map}
use Rattle.slab.specs.Slab.{entries}
use Rattle.mr_session.proofs.slots.numbers_in.Given as goal

-- the numbers so far, and then those of the entries that are left, are those of all
abbrev pub invariant-loop-entry : goal.invariant-loop-entry
invariant-loop-entry g l =
    (goal.iterator-loop-entry g).can_next l.entry-iterator ×
    (goal.iterator-loop-entry g).is_finite l.entry-iterator ×
    (l.numbers.items ++ map (λ e. e.1.number) l.entry-iterator ≡ map (λ e. e.1.number) (entries l.slots))
