use Rattle.mr_talk.proofs.PackedLaws.{unpacks_none, unpacks_on}
use Rattle.mr_talk.proofs.laws.packed_behind_packed.Goals as goal

pub returns : goal.returns
returns c = record { none = unpacks_none; more = unpacks_on }
