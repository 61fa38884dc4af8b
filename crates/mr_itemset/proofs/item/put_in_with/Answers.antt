use Rattle.std.proofs.Common.{◌≡◌}
use Rattle.mr_itemset.proofs.EntryLemmas.{listed_of-insert, put_back-same}
use Rattle.mr_itemset.proofs.item.put_in_with.Goals as goal

pub returns-in_default-clause-err : goal.returns-in_default-clause-err
returns-in_default-clause-err g c =
    let same : c.put_back.new.listed.entries ≡ c.args.listed.now.entries =
    put_back-same c.args.listed.now c.insert.new.self c.put_back.new.listed c.args.new.item c.args.new.vector c.in_ok-before.ensures.updates
    (rw c.in_ok-before.ensures.old at c.put_back.ensures.updates) c.in_ok-before.ensures.was_ordered c.put_back.ensures.ordered in
    (same, c.in_default.ensures.err)

pub returns-clause-ok : goal.returns-clause-ok
returns-clause-ok g c = rw c.in_ok-before.ensures.entries (listed_of-insert c.args.new c.args.listed.now.entries)
