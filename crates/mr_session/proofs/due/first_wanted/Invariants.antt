use Rattle.std.proofs.Common.{◌≡◌, ◌+◌, length, find}
use Rattle.mr_session.proofs.Names.{AreInVersionOrder, is_wanted, lower}
use Rattle.mr_session.proofs.due.first_wanted.Given as goal

-- what is found in what is left is what is found in all
abbrev pub invariant-loop-first : goal.invariant-loop-first
invariant-loop-first l =
    AreInVersionOrder l.left × AreInVersionOrder l.right
    × (lower (find (is_wanted l.asked) l.left) (find (is_wanted l.asked) l.right) ≡ lower (find (is_wanted l.asked) l.heads) (find (is_wanted l.asked) l.push_outs))

abbrev pub decreases-loop-first : goal.decreases-loop-first
decreases-loop-first l = length l.left + length l.right
