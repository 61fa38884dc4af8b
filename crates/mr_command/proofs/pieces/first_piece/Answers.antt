use Rattle.mr_command.proofs.PieceLemmas.{parts-split}
use Rattle.mr_command.proofs.pieces.first_piece.Goals as goal

pub returns-in-Some : goal.returns-in-Some
returns-in-Some c = rw c.in-Some.is at (parts-split c.args.separator c.args.text.now c.split_once.result c.requires c.split_once.ensures.cases)

pub returns-in-None : goal.returns-in-None
returns-in-None c = rw c.in-None.is at (parts-split c.args.separator c.args.text.now c.split_once.result c.requires c.split_once.ensures.cases)
