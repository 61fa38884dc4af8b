use Rattle.std.proofs.Common.{List, Option, ap, sym, ◌∙◌}
use Rattle.mr_itemset.proofs.Names.{AuthorColumn, unwrap_or}
use Rattle.mr_itemset.proofs.EntryLemmas.{vector_in-lookup}
use Rattle.mr_itemset.proofs.settled.Settled.vector_of.Goals as goal

pub returns-in-Some-clause-is : goal.returns-in-Some-clause-is
returns-in-Some-clause-is g c =
    rw (← c.self.view_is)
    (ap (λ (found : Option (List AuthorColumn)). unwrap_or found c.self.inside.all) c.in-Some.ensures.value
    ∙ sym (vector_in-lookup c.self.inside.all c.self.inside.listed.entries c.args.item))

pub returns-in-None-clause-is : goal.returns-in-None-clause-is
returns-in-None-clause-is g c =
    rw (← c.self.view_is)
    (ap (λ (found : Option (List AuthorColumn)). unwrap_or found c.self.inside.all) c.in-None.ensures.value
    ∙ sym (vector_in-lookup c.self.inside.all c.self.inside.listed.entries c.args.item))
