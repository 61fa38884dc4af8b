use Rattle.mr_settle.proofs.StartLemmas.{distinct_by}
use Rattle.mr_settle.proofs.join.are_distinct.Goals as goal

pub returns : goal.returns
returns g c = distinct_by c.args.ends.now c.share_ids.result c.share_ids.ensures
