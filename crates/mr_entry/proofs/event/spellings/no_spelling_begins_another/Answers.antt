use Rattle.mr_entry.proofs.CodecLaws.{begins_no_other}
use Rattle.mr_entry.proofs.EventLaws.{event_codec}
use Rattle.mr_entry.proofs.event.spellings.no_spelling_begins_another.Goals as goal

pub returns : goal.returns
returns c = begins_no_other event_codec
