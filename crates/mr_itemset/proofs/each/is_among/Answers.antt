use Rattle.std.proofs.Common.{sym}
use Rattle.mr_itemset.proofs.RisingLemmas.{lower_none}
use Rattle.mr_itemset.proofs.each.is_among.Goals as goal

pub returns-then-are_lower : goal.returns-then-are_lower
returns-then-are_lower c = sym (lower_none c.args.before.now c.args.item (c.requires c.if-are_lower.true))
