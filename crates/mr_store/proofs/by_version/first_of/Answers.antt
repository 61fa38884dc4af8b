use Rattle.std.proofs.Common.{ap, ◌∙◌}
use Rattle.mr_store.proofs.ListedLemmas.{first_in, firsts_found}
use Rattle.mr_store.proofs.by_version.first_of.Goals as goal

pub returns-in-Some : goal.returns-in-Some
returns-in-Some c = c.version_if_of.ensures ∙ (ap (first_in c.args.item) (rw c.creator.ensures at c.in-Some.ensures) ∙ firsts_found c.args.item c.args.revisions.now c.requires)

pub returns-in-None : goal.returns-in-None
returns-in-None c = ap (first_in c.args.item) (rw c.creator.ensures at c.in-None.ensures) ∙ firsts_found c.args.item c.args.revisions.now c.requires
