use Rattle.std.proofs.Common.{ℕ, List, IsTrue, take}
use Rattle.mr_subs.proofs.Names.{Name, has_label, on_shelf}
use Rattle.mr_subs.proofs.shelves.shelve_all.Given as goal

-- the version stands under the labels up to here, and what stood stays
abbrev pub invariant-loop-label : goal.invariant-loop-label
invariant-loop-label l =
    ((q : List ℕ) → IsTrue (has_label (take l.label-index l.labels) q) → IsTrue (on_shelf l.shelves.entries q l.version))
    × ((q : List ℕ) (v : Name) → IsTrue (on_shelf l.fn.shelves.entries q v) → IsTrue (on_shelf l.shelves.entries q v))
