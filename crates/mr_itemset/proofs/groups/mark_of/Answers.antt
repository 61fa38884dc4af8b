use Rattle.std.proofs.Common.{List, ap, ◌∙◌}
use Rattle.mr_itemset.proofs.Names.{AuthorColumn, slice_get}
use Rattle.mr_itemset.proofs.GroupLemmas.{mark_first, mark_none}
use Rattle.mr_itemset.proofs.groups.mark_of.Goals as goal

pub returns-in-Some : goal.returns-in-Some
returns-in-Some c = c.upto.ensures ∙ mark_first c.args.vector.now c.in-Some.x.now (c.in-Some.ensures.value ∙ ap (λ (v : List AuthorColumn). slice_get v 0) c.author_columns.ensures.is)

pub returns-in-None : goal.returns-in-None
returns-in-None c = mark_none c.args.vector.now (c.in-None.ensures.value ∙ ap (λ (v : List AuthorColumn). slice_get v 0) c.author_columns.ensures.is)
