use Rattle.std.proofs.Common.{◌≡◌, ℕ, Some, Contains}
use Rattle.mr_session.proofs.Names.{Entry, get}
use Rattle.mr_session.proofs.slots.key_of.Given as goal

-- the number's entry is among those that are left, and each that is left is the slab's
abbrev pub invariant-loop-key : goal.invariant-loop-key
invariant-loop-key g l =
    (goal.iterator-loop-key g).can_next l.key-iterator ×
    (goal.iterator-loop-key g).is_finite l.key-iterator ×
    ((key : ℕ) (entry : Entry g.row.T.Denot) → get l.slots key ≡ Some entry → entry.number ≡ l.number → Contains l.key-iterator (key, entry)) ×
    ((key : ℕ) (entry : Entry g.row.T.Denot) → Contains l.key-iterator (key, entry) → get l.slots key ≡ Some entry)
