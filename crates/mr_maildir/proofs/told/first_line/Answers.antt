use Rattle.mr_maildir.proofs.ToldLemmas.{cut-none, cut-some}
use Rattle.mr_maildir.proofs.told.first_line.Goals as goal

pub returns-clause-cut : goal.returns-clause-cut
returns-clause-cut c = cut-some c.args.text.now c.split_once.result c.split_once.ensures.cases

pub returns-clause-none : goal.returns-clause-none
returns-clause-none c = cut-none c.args.text.now c.split_once.result c.split_once.ensures.cases
