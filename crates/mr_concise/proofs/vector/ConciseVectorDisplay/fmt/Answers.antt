use Rattle.std.proofs.Common.{true, ◌∷◌, refl}
use Rattle.mr_concise.proofs.Names.{column_text, put_two}
use Rattle.mr_concise.proofs.TextLemmas.{flat_map-here}
use Rattle.mr_concise.proofs.vector.ConciseVectorDisplay.fmt.Goals as goal

pub loop-x-preserved : goal.loop-x-preserved
loop-x-preserved g c = λ plain.
    let had = c.loop-x.invariant plain in
    put_two g.W.Write.write_str_gives _ _ _ _ _ _ had (c.in_ok-write-in-len1-up-2.ensures.writes had.plain (refl {a = true}))
    (flat_map-here (λ y. 44 ∷ column_text y) _ c.loop-x.x-index c.x-item.result c.loop-x-test.true c.x-item.is)
