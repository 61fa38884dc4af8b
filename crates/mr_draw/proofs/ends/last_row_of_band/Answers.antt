use Rattle.std.proofs.Common.{◌≡◌, ◌+◌, ◌∙◌, ap, sym, if◌then◌else◌, [], ◌∷◌, ◌++◌, take, arith}
use Rattle.mr_draw.proofs.Names.{Happened, is_of_stream, take_more}
use Rattle.mr_draw.proofs.EndLemmas.{last_of_stream-pushed}
use Rattle.mr_draw.proofs.ends.last_row_of_band.Goals.{then-is_of_stream, else-is_of_stream}
use Rattle.mr_draw.proofs.ends.last_row_of_band.Goals as goal

pub loop-at-preserved : goal.loop-at-preserved
loop-at-preserved c =
    let all = c.args.shown.now in
    let i = c.loop-at.at in
    let x = c.index-shown-at.result in
    let more : take (i + 1) all ≡ take i all ++ x ∷ [] = take_more all i x (omega (arith, c.loop-at-test.true)) ∙ ap (λ (y : Happened). take i all ++ y ∷ []) (sym c.index-shown-at.is) in
    let test = sym (c.is_of_stream.ensures ∙ ap (λ (h : Happened). is_of_stream c.args.source c.args.stream h.kind) c.happening.view_is) in
    last_of_stream-pushed c.args.source c.args.stream c.args.row all i x c.loop-at.last _ (omega (arith, c.loop-at-test.true)) more c.loop-at.invariant
    (elim c.if-is_of_stream.branch [
      | then-is_of_stream w ↦ w.last-is ∙ sym (ap (λ b. if b then i else c.loop-at.last) (test ∙ w.if-is_of_stream.true))
      | else-is_of_stream w ↦ w.last-is ∙ sym (ap (λ b. if b then i else c.loop-at.last) (test ∙ w.if-is_of_stream.false))
    ])
