use Rattle.std.proofs.Common.{◌∙◌}
use Rattle.mr_replica.proofs.Highest.{last_is_bound}
use Rattle.mr_replica.proofs.replica.forged.highest.Goals as goal

pub returns : goal.returns
returns c = c.unwrap_or.ensures ∙ last_is_bound c.args.vector.now c.args.author c.last.result c.author_columns-columns.ensures.vector c.last.ensures
