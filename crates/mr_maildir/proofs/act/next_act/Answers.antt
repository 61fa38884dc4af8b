use Rattle.std.specs.Option.{option_copied}
use Rattle.mr_maildir.proofs.ActLemmas.{where_deleted, where_created, where_undeleted}
use Rattle.mr_maildir.proofs.act.next_act.Goals as goal

pub returns-clause-deletes : goal.returns-clause-deletes
returns-clause-deletes c =
    where_deleted c.act_where.result (option_copied c.args.left) (option_copied c.args.seen) (option_copied c.args.held) (rw c.standing.ensures at c.act_where.ensures)

pub returns-clause-creates : goal.returns-clause-creates
returns-clause-creates c =
    where_created c.act_where.result (option_copied c.args.left) (option_copied c.args.seen) (option_copied c.args.held) (rw c.standing.ensures at c.act_where.ensures)

pub returns-clause-left_the_filter : goal.returns-clause-left_the_filter
returns-clause-left_the_filter c =
    where_undeleted c.act_where.result (option_copied c.args.left) (option_copied c.args.seen) (option_copied c.args.held) (rw c.standing.ensures at c.act_where.ensures)
