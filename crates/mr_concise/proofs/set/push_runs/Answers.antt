use Rattle.std.proofs.Common.{arith, ap, refl, ◌≡◌, ◌+◌, ◌-◌, List, get_or, drop}
use Rattle.mr_concise.proofs.Names.{Hole, drop_more}
use Rattle.mr_concise.proofs.RunLemmas.{next_hole, runs-begin, runs-run, runs-skip, runs-end, drop-at_end}
use Rattle.mr_concise.proofs.set.push_runs.Goals as goal
use Rattle.mr_concise.proofs.set.push_runs.Goals.{then-start-hole+in_ok-push, else-start-hole}

pub loop-hole-init : goal.loop-hole-init
loop-hole-init c = runs-begin c.args.x.now.author c.args.x.now.column c.args.runs.now.items c.requires.column c.requires.some c.requires.before

pub invariant_of-push : goal.invariant_of-push
invariant_of-push c =
    let items : c.holes-hole-items.result.now ≡ c.args.x.now.column.holes = c.holes-hole-items.ensures in
    let l = rw items at c.loop-hole-test.true in
    let w = rw (drop_more c.args.x.now.column.holes c.loop-hole.hole-index (record { first = 0; last = 0 }) l) at c.loop-hole.invariant in
    let n = next_hole c.args.x.now.author c.args.x.now.column c.args.runs.now.items c.loop-hole.runs.items c.loop-hole.start (get_or c.args.x.now.column.holes c.loop-hole.hole-index (record { first = 0; last = 0 })) (drop (c.loop-hole.hole-index + 1) c.args.x.now.column.holes) w in
    let lt = c.if-start-hole.true in
    let top = c.requires.column.in_range in
    let bound = n.bound in let order = n.ordered in
    rw items (record { from_one = w.from_one; ordered = let t = rw items at lt in omega arith; in_range = let t = rw items at lt in omega arith })

pub overflow_add-start : goal.overflow_add-start
overflow_add-start c =
    let items : c.holes-hole-items.result.now ≡ c.args.x.now.column.holes = c.holes-hole-items.ensures in
    let l = rw items at c.loop-hole-test.true in
    let w = rw (drop_more c.args.x.now.column.holes c.loop-hole.hole-index (record { first = 0; last = 0 }) l) at c.loop-hole.invariant in
    let n = next_hole c.args.x.now.author c.args.x.now.column c.args.runs.now.items c.loop-hole.runs.items c.loop-hole.start (get_or c.args.x.now.column.holes c.loop-hole.hole-index (record { first = 0; last = 0 })) (drop (c.loop-hole.hole-index + 1) c.args.x.now.column.holes) w in
    let top = c.requires.column.in_range in
    let bound = n.bound in
    rw items (omega arith)

pub loop-hole-preserved : goal.loop-hole-preserved
loop-hole-preserved c =
    let items : c.holes-hole-items.result.now ≡ c.args.x.now.column.holes = c.holes-hole-items.ensures in
    let l = rw items at c.loop-hole-test.true in
    let w = rw (drop_more c.args.x.now.column.holes c.loop-hole.hole-index (record { first = 0; last = 0 }) l) at c.loop-hole.invariant in
    rw items (elim c.if-start-hole.branch [
      | then-start-hole+in_ok-push v ↦ rw (v.runs-is, v.in_ok-push.ensures.items) (runs-run c.args.x.now.author c.args.x.now.column c.args.runs.now.items c.loop-hole.runs.items c.loop-hole.start (get_or c.args.x.now.column.holes c.loop-hole.hole-index (record { first = 0; last = 0 })) (drop (c.loop-hole.hole-index + 1) c.args.x.now.column.holes) _ w (rw items at v.if-start-hole.true) refl refl (ap (λ (hs : List Hole). (get_or hs c.loop-hole.hole-index (record { first = 0; last = 0 })).first - 1) items))
      | else-start-hole v ↦ rw v.runs-is (runs-skip c.args.x.now.author c.args.x.now.column c.args.runs.now.items c.loop-hole.runs.items c.loop-hole.start (get_or c.args.x.now.column.holes c.loop-hole.hole-index (record { first = 0; last = 0 })) (drop (c.loop-hole.hole-index + 1) c.args.x.now.column.holes) w (rw items at v.if-start-hole.false))
    ])

pub returns : goal.returns
returns c =
    let items : c.holes-hole-items.result.now ≡ c.args.x.now.column.holes = c.holes-hole-items.ensures in
    let l = rw items at c.loop-hole-test.false in
    let w = rw (drop-at_end c.loop-hole.hole-index c.args.x.now.column.holes l) at c.loop-hole.invariant in
    rw c.in_ok-push-2.ensures.items (runs-end c.args.x.now.author c.args.x.now.column c.args.runs.now.items c.loop-hole.runs.items c.loop-hole.start _ w refl refl c.upto.ensures)
