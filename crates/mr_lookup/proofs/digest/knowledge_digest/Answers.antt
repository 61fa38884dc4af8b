use Rattle.std.proofs.Common.{◌∙◌, List, ap}
use Rattle.mr_lookup.proofs.Names.{ConciseFragment, knowledge_text, sha256}
use Rattle.mr_lookup.proofs.DigestLemmas.{digest_of}
use Rattle.mr_lookup.proofs.digest.knowledge_digest.Goals as goal

pub returns-in-Ok-clause-digest : goal.returns-in-Ok-clause-digest
returns-in-Ok-clause-digest g c =
    let fragments = c.in_ok-fragments.fragments.items in
    digest_of g.K.Knowledge.form g.met.K.Knowledge.by_meaning c.args.replica.now.knowledge fragments c.in-Ok.digest c.in_ok-fragments.ensures.parts
    (c.in-Ok.ensures ∙ ap (λ (l : List ConciseFragment). sha256 (knowledge_text l)) c.deref.ensures.value)
