use Rattle.std.proofs.Common.{◌∙◌}
use Rattle.std.specs.BTreeMap.{IsFromIterResult}
use Rattle.std.proofs.lemmas.Iterator.Adapters.{YieldsList-from_vec, fact_from_collect}
use Rattle.mr_mail.specs.Label.{text_cmp}
use Rattle.mr_fold.proofs.sides.by_digest.Goals as goal

pub returns : goal.returns
returns c =
    fact_from_collect (IsFromIterResult text_cmp) c.collect.result c.collect.ensures.ran
    (YieldsList-from_vec {s = c.into_iter.result} c.args.views.items c.into_iter.ensures.rest (c.into_iter.ensures.len ∙ c.args.views.ok.0))
