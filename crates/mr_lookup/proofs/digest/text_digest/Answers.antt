use Rattle.std.proofs.Common.{◌++◌, ◌∷◌, [], ◌∙◌}
use Rattle.mr_lookup.proofs.DigestLemmas.{text_step}
use Rattle.mr_lookup.proofs.digest.text_digest.Goals as goal

pub loop-i-preserved : goal.loop-i-preserved
loop-i-preserved c =
    let so_far = c.loop-i.invariant in
    let m = so_far.0 in
    let text = c.as_bytes-in-loop-i.result.now in (
      (m ++ (59 ∷ 32 ∷ [])) ++ text,
      c.update-in-loop-i-2.ensures (m ++ (59 ∷ 32 ∷ [])) (c.update-in-loop-i.ensures m so_far.1),
      text_step c.args.fragments.now c.loop-i.i m text c.loop-i.auto.i c.loop-i-test.true so_far.2 (c.as_bytes-in-loop-i.ensures.value ∙ c.in_ok-knowledge_text-2.ensures),
    )
