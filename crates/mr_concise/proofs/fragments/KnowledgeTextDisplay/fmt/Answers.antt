use Rattle.std.proofs.Common.{true, ◌∷◌, refl}
use Rattle.mr_concise.proofs.Names.{fragment_text, put_two}
use Rattle.mr_concise.proofs.TextLemmas.{flat_map-here}
use Rattle.mr_concise.proofs.fragments.KnowledgeTextDisplay.fmt.Goals as goal

pub loop-fragment-preserved : goal.loop-fragment-preserved
loop-fragment-preserved g c = λ plain.
    let had = c.loop-fragment.invariant plain in
    put_two g.W.Write.write_str_gives _ _ _ _ _ _ had (c.in_ok-write-in-len1-up-2.ensures.writes had.plain (refl {a = true}))
    (flat_map-here (λ fragment. 59 ∷ 32 ∷ fragment_text fragment) _ c.loop-fragment.fragment-index c.fragment-item.result c.loop-fragment-test.true c.fragment-item.is)
