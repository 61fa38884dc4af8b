use Rattle.mr_entry.proofs.EventLaws.{event_spelled_once}
use Rattle.mr_entry.proofs.event.spellings.one_spelling.Goals as goal

pub returns : goal.returns
returns c = event_spelled_once
