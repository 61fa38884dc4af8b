use Rattle.std.proofs.Common.{ℕ, List, IsTrue, IsFalse}
use Rattle.mr_subs.proofs.Names.{Name, has_label, name_eq, on_shelf}
use Rattle.mr_subs.proofs.shelves.unshelve_others.Given as goal

-- what stands under the other labels stays, and so do other versions
abbrev pub invariant-loop-label : goal.invariant-loop-label
invariant-loop-label l =
    ((q : List ℕ) → IsTrue (has_label l.others q) → (v : Name) → IsTrue (on_shelf l.fn.shelves.entries q v) → IsTrue (on_shelf l.shelves.entries q v))
    × ((v : Name) → IsFalse (name_eq l.version v) → (q : List ℕ) → IsTrue (on_shelf l.fn.shelves.entries q v) → IsTrue (on_shelf l.shelves.entries q v))
