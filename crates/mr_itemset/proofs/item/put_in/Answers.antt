use Rattle.mr_itemset.proofs.EntryLemmas.{listed_of-insert}
use Rattle.mr_itemset.proofs.item.put_in.Goals as goal

pub returns-clause-ok : goal.returns-clause-ok
returns-clause-ok c = rw c.in_ok-insert.ensures.entries (listed_of-insert c.args.new c.args.listed.now.entries)
