use Rattle.mr_maildir.proofs.NameLemmas.{before_lacks_colon, no_first_colon}
use Rattle.mr_maildir.proofs.name.split_colon.Goals as goal

pub returns-clause-first : goal.returns-clause-first
returns-clause-first c = before_lacks_colon c.args.name.now c.split_once.result c.split_once.ensures.cases

pub returns-clause-none : goal.returns-clause-none
returns-clause-none c = no_first_colon c.args.name.now c.split_once.result c.split_once.ensures.cases
