use Rattle.mr_entry.proofs.EntryLaws.{spelled_once}
use Rattle.mr_entry.proofs.spellings.one_spelling.Goals as goal

pub returns : goal.returns
returns c = spelled_once
