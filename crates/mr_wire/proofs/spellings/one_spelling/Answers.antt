use Rattle.mr_wire.proofs.DecodeLaws.{spelled_once}
use Rattle.mr_wire.proofs.spellings.one_spelling.Goals as goal

pub returns : goal.returns
returns c = spelled_once
