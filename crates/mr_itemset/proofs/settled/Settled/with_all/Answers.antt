use Rattle.mr_itemset.specs.inner.Entries.{listed_of}
use Rattle.mr_itemset.proofs.GrowLemmas.{grown_known}
use Rattle.mr_itemset.proofs.settled.Settled.with_all.Goals as goal

pub returns-clause-same : goal.returns-clause-same
returns-clause-same g c i v =
    rw c.from_parts.ensures
    (grown_known (g.A.Source.has c.args.added.now) c.args.self.now (record { all = c.in-Ok.all; listed = listed_of c.in_ok-listed.listed.entries }) c.for_all.ensures.normal c.in_ok-listed.ensures
    (rw c.for_all.ensures.is at c.in-Ok.ensures.ok) i v)
