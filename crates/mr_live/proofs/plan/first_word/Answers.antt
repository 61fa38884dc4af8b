use Rattle.mr_command.proofs.WordLemmas.{words-split}
use Rattle.mr_live.proofs.plan.first_word.Goals as goal

pub returns-in-Some : goal.returns-in-Some
returns-in-Some c = rw c.in-Some.is at (words-split c.args.text.now c.split_once.result c.split_once.ensures.cases)

pub returns-in-None : goal.returns-in-None
returns-in-None c = rw c.in-None.is at (words-split c.args.text.now c.split_once.result c.split_once.ensures.cases)
