use Rattle.mr_concise.proofs.LastLemmas.{next_author-place, no_author-past}
use Rattle.mr_concise.proofs.vector.next_author.Goals as goal

pub returns-then-at-columns : goal.returns-then-at-columns
returns-then-at-columns c = rw (← c.index-columns-at.is) (next_author-place c.args.columns.now c.args.id c.place_of_id-at.result c.index-columns-at.result c.requires c.place_of_id-at.ensures.place c.if-at-columns.true c.index-columns-at.is)

pub returns-else-at-columns : goal.returns-else-at-columns
returns-else-at-columns c = no_author-past c.args.columns.now c.args.id c.place_of_id-at.result c.place_of_id-at.ensures.place c.if-at-columns.false
