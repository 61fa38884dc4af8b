use Rattle.std.proofs.Common.{true, ◌∷◌, refl}
use Rattle.mr_concise.proofs.Names.{name_text, put_two}
use Rattle.mr_concise.proofs.TextLemmas.{flat_map-here}
use Rattle.mr_concise.proofs.fragments.ItemsTextDisplay.fmt.Goals as goal

pub loop-item-preserved : goal.loop-item-preserved
loop-item-preserved g c = λ plain.
    let had = c.loop-item.invariant plain in
    put_two g.W.Write.write_str_gives _ _ _ _ _ _ had (c.in_ok-write-in-len1-up-2.ensures.writes had.plain (refl {a = true}))
    (rw c.creator-in-loop-item.ensures (flat_map-here (λ item. 44 ∷ name_text item) _ c.loop-item.item-index c.item-item.result c.loop-item-test.true c.item-item.is))
