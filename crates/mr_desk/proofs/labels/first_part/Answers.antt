use Rattle.mr_desk.proofs.PartLemmas.{parts-split}
use Rattle.mr_desk.proofs.labels.first_part.Goals as goal

pub returns-in-Some : goal.returns-in-Some
returns-in-Some c = rw c.in-Some.is at (parts-split c.args.text.now c.split_once.result c.split_once.ensures.cases)

pub returns-in-None : goal.returns-in-None
returns-in-None c = rw c.in-None.is at (parts-split c.args.text.now c.split_once.result c.split_once.ensures.cases)
