use Rattle.std.proofs.Common.{lit<, rules}
use Rattle.std.proofs.lemmas.Iterator.Search.{all_from_yields_List}
use Rattle.std.proofs.lemmas.Iterator.Splits.{YieldsList-from_str_split}
use borrow.Author.Tests.{tests}
use Rattle.mr_folder.specs.inner.Parts.{is_part_text}
use Rattle.mr_folder.proofs.path.is_inside.Goals as goal

pub returns : goal.returns
returns c = all_from_yields_List is_part_text _ _ _ c.all.ensures.ran (YieldsList-from_str_split 47 c.args.path.now (lit< tt) c.split.ensures.text c.split.ensures.has_more c.split.ensures.pattern) (λ x b q k. search (rules, tests))
