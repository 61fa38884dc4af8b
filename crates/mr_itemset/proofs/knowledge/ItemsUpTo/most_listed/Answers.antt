use Rattle.std.proofs.Common.{◌≡◌, ◌≤◌, length, sym, ap, ◌∙◌, arith}
use Rattle.mr_itemset.specs.Folded.{united, folded}
use Rattle.mr_itemset.proofs.CountLemmas.{folded_listed, gained_few}
use Rattle.mr_itemset.proofs.EntryLemmas.{listed_of-length}
use Rattle.mr_itemset.proofs.knowledge.ItemsUpTo.most_listed.Goals as goal

pub returns-clause-most : goal.returns-clause-most
returns-clause-most g c =
    let few = gained_few c.self.inside.pending (united c.self.inside.settled.all c.self.inside.pending) c.self.inside.settled.listed in
    let same = folded_listed c.self.inside.settled c.self.inside.pending in
    let listed : c.len.result ≡ length c.self.inside.settled.listed = c.len.ensures.len ∙ sym (listed_of-length c.listed.result.now.entries) ∙ ap length c.listed.ensures.is in
    let whole : length (folded c.self.inside.settled c.self.inside.pending).listed ≤ c.len.result = omega arith in
    rw (← c.self.view_is) whole

pub returns-clause-bound : goal.returns-clause-bound
returns-clause-bound g c =
    let listed : c.len.result ≡ length c.self.inside.settled.listed = c.len.ensures.len ∙ sym (listed_of-length c.listed.result.now.entries) ∙ ap length c.listed.ensures.is in
    let few = c.self.invariant.normal.few in
    omega arith
