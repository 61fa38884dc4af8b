use Rattle.std.proofs.Common.{◌∙◌}
use Rattle.mr_itemset.specs.inner.Entries.{listed_as, listed_of}
use Rattle.mr_itemset.proofs.EntryLemmas.{placed-last}
use Rattle.mr_itemset.proofs.GrowLemmas.{gains_nothing, gains_pushed, lacks_grown, united_gained}
use Rattle.mr_itemset.proofs.grow.push_grown.Goals as goal

pub returns-then-not-lacks : goal.returns-then-not-lacks
returns-then-not-lacks g c =
    gains_nothing (g.A.Source.has c.args.added.now) c.args.all.now (listed_as c.args.item c.args.vector.now) (listed_of c.args.listed.now.entries) c.requires.added (c.lacks.ensures.no c.if-not-lacks.true) c.requires.covers

pub returns : goal.returns
returns g c =
    let x = listed_as c.args.item c.args.vector.now in
    let has = united_gained (g.A.Source.has c.args.added.now) c.args.all.now c.in-Ok.vector x c.requires.added c.requires.covers c.in-Ok.ensures.has in
    rw (c.in_ok-put_in.ensures.ok ∙ placed-last (listed_as c.args.item c.in-Ok.vector) (listed_of c.args.listed.now.entries) c.requires.before)
    (gains_pushed (g.A.Source.has c.args.added.now) c.args.all.now x (listed_of c.args.listed.now.entries) c.in-Ok.vector c.requires.before c.in-Ok.ensures.columns_ok has c.requires.covers
    (lacks_grown (g.A.Source.has c.args.added.now) c.args.all.now c.in-Ok.vector x (c.lacks.ensures.yes c.if-not-lacks.false) has))
