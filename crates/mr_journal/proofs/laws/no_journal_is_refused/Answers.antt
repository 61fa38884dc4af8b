use Rattle.mr_journal.proofs.Unique.{not_refused}
use Rattle.mr_journal.proofs.laws.no_journal_is_refused.Goals as goal

pub returns : goal.returns
returns c = not_refused
