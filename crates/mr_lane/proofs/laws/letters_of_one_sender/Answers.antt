use Rattle.mr_lane.proofs.PieceLemmas.{items_of-pieces}
use Rattle.mr_lane.proofs.LetterLemmas.{items-by, letters-settled}
use Rattle.mr_lane.proofs.laws.letters_of_one_sender.Goals as goal

pub returns-clause-items : goal.returns-clause-items
returns-clause-items g c = items_of-pieces

pub returns-clause-letters : goal.returns-clause-letters
returns-clause-letters g c = items-by

pub returns-clause-whole : goal.returns-clause-whole
returns-clause-whole g c = letters-settled
