use Rattle.std.proofs.Common.{◌≡◌, ◌+◌, ◌∙◌, ap, sym, [], ◌∷◌, ◌++◌, length, map, take, arith}
use Rattle.mr_draw.proofs.Names.{All-push, HasFilter, IsWritten, take_more}
use Rattle.mr_draw.proofs.PictureLemmas.{names-pushed}
use Rattle.mr_draw.proofs.picture.headings.Goals as goal

pub loop-column-preserved : goal.loop-column-preserved
loop-column-preserved g c =
    let all = c.args.lanes.now in
    let i = c.loop-column.column in
    let x = c.index-lanes-column.result in
    let more : take (i + 1) all ≡ take i all ++ x ∷ [] = take_more all i x (omega (arith, c.loop-column-test.true)) ∙ ap (λ y. take i all ++ y ∷ []) (sym c.index-lanes-column.is) in (
      names-pushed (map (λ name. name.now) c.args.names.now) all i x c.loop-column.headings.items c.push.new.self.items c.in_ok-heading.field-0 (omega (arith, c.loop-column-test.true)) more c.loop-column.invariant.0 c.in_ok-heading.ensures.named c.in_ok-push.ensures.items,
      rw c.in_ok-push.ensures.items (All-push (HasFilter c.args.scene.now.world.now) c.loop-column.headings.items c.in_ok-heading.field-0 c.loop-column.invariant.1 c.in_ok-heading.ensures.filter),
      rw c.in_ok-push.ensures.items (All-push (IsWritten (length all)) c.loop-column.headings.items c.in_ok-heading.field-0 c.loop-column.invariant.2 c.in_ok-heading.ensures.written),
    )
