use Rattle.std.proofs.Common.{true, refl}
use Rattle.mr_concise.proofs.Names.{hole_text, put_two}
use Rattle.mr_concise.proofs.TextLemmas.{flat_map-at}
use Rattle.mr_concise.proofs.vector.AuthorColumnDisplay.fmt.Goals as goal

pub loop-hole-preserved : goal.loop-hole-preserved
loop-hole-preserved g c = λ plain.
    let had = c.loop-hole.invariant plain in
    put_two g.W.Write.write_str_gives _ _ _ _ _ _ had (c.in_ok-write-2.ensures.writes had.plain (refl {a = true}))
    (flat_map-at hole_text c.holes-hole-items.result.now c.loop-hole.hole-index _ c.loop-hole-test.true)
