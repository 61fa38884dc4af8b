use Rattle.std.proofs.Common.{◌≡◌, [], ◌∷◌, None, map}
use Rattle.mr_itemset.proofs.Names.{MAX_ITEMS, all_grouped, shown, shown_group}
use Rattle.mr_itemset.proofs.ToldItems.{told_fragments}
use Rattle.mr_itemset.proofs.settled.Settled.told.Goals as goal

pub returns-clause-are : goal.returns-clause-are
returns-clause-are g c =
    let told = c.in_ok-groups.ensures in
    let groups : c.in_ok-groups.groups.items ≡ all_grouped MAX_ITEMS [] told.0 = told.1.1 in
    let exact : map shown c.in_ok-fragments_of.field-0.items ≡ (record { items = None; vector = c.in-Ok.all }) ∷ map shown_group (all_grouped MAX_ITEMS [] told.0) = rw groups at c.in_ok-fragments_of.ensures.ok in
    told_fragments c.args.self.now c.args.pending.now c.in-Ok.all told.0 (map shown c.in_ok-fragments_of.field-0.items) c.for_all.ensures.normal c.requires.vector c.requires.all c.requires.listed
    (rw c.for_all.ensures.is at c.in-Ok.ensures.canonical) told.1.0 exact
