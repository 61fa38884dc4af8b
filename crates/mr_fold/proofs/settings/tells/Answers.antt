use Rattle.std.proofs.Common.{ℕ, List, lit<, rules, tests}
use Rattle.std.proofs.lemmas.Iterator.Search.{any_from_yields_List}
use Rattle.std.proofs.lemmas.Iterator.Splits.{YieldsList-from_str_split}
use Rattle.mr_mail.specs.Label.{text_eq}
use Rattle.mr_fold.specs.inner.Settings.{layout_line}
use Rattle.mr_fold.proofs.settings.tells.Goals as goal

pub returns : goal.returns
returns c =
    any_from_yields_List (λ (line : List ℕ). text_eq line (layout_line c.args.layout)) _ _ _ c.any.ensures.ran
    (YieldsList-from_str_split 10 c.args.text.now (lit< tt) c.split.ensures.text c.split.ensures.has_more c.split.ensures.pattern)
    (λ x b q k. search (rules, tests))
