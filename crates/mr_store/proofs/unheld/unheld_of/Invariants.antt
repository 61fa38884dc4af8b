use Rattle.std.proofs.Common.{◌≡◌, ◌++◌, length, filter}
use Rattle.mr_store.proofs.Names.{AreInVersionOrder, Rev, is_unheld}
use Rattle.mr_store.proofs.unheld.unheld_of.Given as goal

-- those so far and those of the rest are all
abbrev pub invariant-loop-first : goal.invariant-loop-first
invariant-loop-first l =
    AreInVersionOrder l.rest
    × (l.left.items ++ filter (λ (r : Rev). is_unheld l.learned l.held r.item r.version) l.rest ≡ filter (λ (r : Rev). is_unheld l.learned l.held r.item r.version) l.revisions)

abbrev pub decreases-loop-first : goal.decreases-loop-first
decreases-loop-first l = length l.rest
