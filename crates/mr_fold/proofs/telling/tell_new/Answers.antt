use Rattle.mr_fold.proofs.TellingLemmas.{new_told}
use Rattle.mr_fold.proofs.telling.tell_new.Goals as goal

pub returns-clause-told : goal.returns-clause-told
returns-clause-told g c = new_told c.args.kept.now c.create.new.self c.in_ok-message.message c.in_ok-create.ensures.later
