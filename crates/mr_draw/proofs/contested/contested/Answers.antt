use Rattle.std.proofs.Common.{◌≡◌, ◌+◌, ◌∙◌, ap, sym, ◌++◌, append-nil, arith, flat_map}
use Rattle.mr_draw.proofs.Names.{AUTHORS, below, merged_by, rivals_at}
use Rattle.mr_draw.proofs.ListLemmas.{flat_map-grown}
use Rattle.mr_draw.proofs.PictureLemmas.{below-more}
use Rattle.mr_draw.proofs.contested.contested.Goals as goal

pub loop-id-init : goal.loop-id-init
loop-id-init g c = c.in_ok-contested.ensures ∙ ap (flat_map merged_by) c.answers.ensures ∙ sym (append-nil (flat_map merged_by c.args.world.now.answers))

pub loop-id-preserved : goal.loop-id-preserved
loop-id-preserved g c =
    let w = c.args.world.now in
    let id = c.loop-id.id in
    flat_map-grown (rivals_at w) (flat_map merged_by w.answers) (below id) (below (id + 1)) id c.loop-id.contested.items c.push_rivals_at.new.contested.items (below-more id) c.loop-id.invariant c.in_ok-push_rivals_at.ensures

pub returns : goal.returns
returns g c =
    let w = c.args.world.now in
    let last : c.loop-id.id ≡ AUTHORS = omega (arith, c.loop-id-test.false, c.loop-id.auto) in
    c.loop-id.invariant ∙ ap (λ n. flat_map merged_by w.answers ++ flat_map (rivals_at w) (below n)) last
