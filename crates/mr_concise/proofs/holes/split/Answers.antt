use Rattle.std.proofs.Common.{arith}
use Rattle.mr_concise.proofs.HoleLemmas.{set-left, set-right, set-both}
use Rattle.mr_concise.proofs.holes.split.Goals as goal
use Rattle.mr_concise.proofs.holes.split.Goals.{then-right+in_ok-insert, else-right}

pub returns-after-right-clause-ok : goal.returns-after-right-clause-ok
returns-after-right-clause-ok c = elim c.if-right.branch [
  | then-right+in_ok-insert w ↦ rw (w.holes-is, w.in_ok-insert.ensures.items) (set-both c.args.holes.now.items c.args.at c.args.hole.first c.args.counter c.args.hole.last c.requires.at c.if-left.true w.if-right.true)
  | else-right w ↦ rw w.holes-is (set-left c.args.holes.now.items c.args.at c.args.hole.first c.args.counter c.args.hole.last c.requires.at c.if-left.true (let f = w.if-right.false in omega arith))
]

pub returns-then-right-2-clause-ok : goal.returns-then-right-2-clause-ok
returns-then-right-2-clause-ok c = set-right c.args.holes.now.items c.args.at c.args.hole.first c.args.counter c.args.hole.last c.requires.at c.if-left.false c.if-right-2.true
