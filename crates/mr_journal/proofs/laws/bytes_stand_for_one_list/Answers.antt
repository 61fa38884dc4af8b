use Rattle.mr_journal.proofs.Unique.{one_list}
use Rattle.mr_journal.proofs.laws.bytes_stand_for_one_list.Goals as goal

pub returns : goal.returns
returns c = one_list
