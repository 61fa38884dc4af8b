use Rattle.std.proofs.Common.{lit<, rules, tests}
use Rattle.std.proofs.lemmas.Iterator.Search.{all_from_yields_List}
use Rattle.std.proofs.lemmas.Iterator.Splits.{YieldsList-from_str_split}
use Rattle.mr_fold.specs.inner.Settings.{is_setting}
use Rattle.mr_fold.proofs.settings.are_settings.Goals as goal

pub returns : goal.returns
returns c =
    all_from_yields_List is_setting _ _ _ c.all.ensures.ran
    (YieldsList-from_str_split 10 c.args.text.now (lit< tt) c.split.ensures.text c.split.ensures.has_more c.split.ensures.pattern)
    (λ x b q k. search (rules, tests))
