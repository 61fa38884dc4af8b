use Rattle.std.proofs.Common.{◌≡◌, ◌≤◌, ◌+◌, ◌∙◌, ap, sym, subst, ◌++◌, arith, append-nil, length}
use Rattle.mr_draw.proofs.Names.{AUTHORS, below, filter_map, lane_at, option_to_list}
use Rattle.mr_draw.proofs.ListLemmas.{filter_map-grown, length-filter_map}
use Rattle.mr_draw.proofs.PictureLemmas.{below-more}
use Rattle.mr_draw.proofs.picture.lanes.Goals.{in-Some+in_ok-push, in_default}
use Rattle.mr_draw.proofs.picture.lanes.Goals as goal

pub loop-id-preserved : goal.loop-id-preserved
loop-id-preserved g c =
    let f = lane_at c.args.world.now in
    let id = c.loop-id.id in
    let before = c.loop-id.lanes.items in
    elim c.match-lane_at.branch [
      | in-Some+in_ok-push w ↦ rw w.lanes-is (filter_map-grown f (below id) (below (id + 1)) id before _ (below-more id) c.loop-id.invariant (w.in_ok-push.ensures.items ∙ ap (λ o. before ++ option_to_list o) w.in-Some.ensures))
      | in_default w ↦ rw w.lanes-is (filter_map-grown f (below id) (below (id + 1)) id before before (below-more id) c.loop-id.invariant (sym (append-nil before) ∙ ap (λ o. before ++ option_to_list o) w.in_default.ensures))
    ]

pub returns-clause-all : goal.returns-clause-all
returns-clause-all g c =
    let last : c.loop-id.id ≡ AUTHORS = omega (arith, c.loop-id-test.false, c.loop-id.auto) in
    c.loop-id.invariant ∙ ap (λ n. filter_map (lane_at c.args.world.now) (below n)) last

pub returns-clause-few : goal.returns-clause-few
returns-clause-few g c =
    subst (λ xs. length xs ≤ 64) (sym (returns-clause-all g c)) (length-filter_map (lane_at c.args.world.now) (below 64))
