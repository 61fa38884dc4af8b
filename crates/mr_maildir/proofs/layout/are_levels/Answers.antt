use Rattle.std.proofs.Common.{lit<, rules, tests}
use Rattle.mr_maildir.proofs.Names.{YieldsList-from_str_split, all_from_yields_List, is_level}
use Rattle.mr_maildir.proofs.layout.are_levels.Goals as goal

pub returns : goal.returns
returns c =
    all_from_yields_List is_level _ _ _ c.all.ensures.ran
    (YieldsList-from_str_split 46 c.args.name.now (lit< tt) c.split.ensures.text c.split.ensures.has_more c.split.ensures.pattern)
    (λ x b q k. search (rules, tests))
