use Rattle.mr_model.proofs.EarlierMoments.{reads_answer, reads_held, was_opened, was_shown}
use Rattle.mr_model.proofs.snapshots.Goals as goal

pub returns-clause-at_answer : goal.returns-clause-at_answer
returns-clause-at_answer g c = reads_answer

pub returns-clause-at_draw : goal.returns-clause-at_draw
returns-clause-at_draw g c = reads_held

pub returns-clause-opened : goal.returns-clause-opened
returns-clause-opened g c = was_opened

pub returns-clause-shown : goal.returns-clause-shown
returns-clause-shown g c = was_shown
