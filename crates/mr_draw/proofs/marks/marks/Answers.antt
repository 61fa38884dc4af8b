use Rattle.std.proofs.Common.{◌≡◌, ◌+◌, ◌∙◌, ap, sym, [], ◌∷◌, ◌++◌, take, arith}
use Rattle.mr_draw.proofs.Names.{Happened, take_more}
use Rattle.mr_draw.proofs.PictureLemmas.{marks-pushed}
use Rattle.mr_draw.proofs.marks.marks.Goals as goal

pub loop-row-preserved : goal.loop-row-preserved
loop-row-preserved g c =
    let scene = c.args.scene.now in
    let shown = c.args.shown.now in
    let i = c.loop-row.row in
    let x = c.index-shown-row.result in
    let more : take (i + 1) shown ≡ take i shown ++ x ∷ [] = take_more shown i x (omega (arith, c.loop-row-test.true)) ∙ ap (λ (y : Happened). take i shown ++ y ∷ []) (sym c.index-shown-row.is) in
    marks-pushed scene.world.now scene.happenings.now shown scene.contested.now i x c.loop-row.marks.items c.push.new.self.items c.in_ok-mark_of.field-0 (omega (arith, c.loop-row-test.true)) more c.loop-row.invariant c.in_ok-mark_of.ensures c.in_ok-push.ensures.items
