use Rattle.mr_wire.proofs.DecodeLaws.{begins_no_other}
use Rattle.mr_wire.proofs.spellings.no_spelling_begins_another.Goals as goal

pub returns : goal.returns
returns c = begins_no_other
