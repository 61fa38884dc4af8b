use Rattle.std.proofs.Common.{refl, lit<}
use Rattle.mr_itemset.proofs.settled.Settled.copy.Goals as goal

pub copies-requires : goal.copies-requires
copies-requires g c = rw c.listed.ensures.is c.listed.ensures.normal.rising

pub from_parts-requires : goal.from_parts-requires
from_parts-requires g c = (lit< tt, rw (c.in-Ok.ensures, c.for_all.ensures.is, c.in_ok-listed.ensures, c.listed.ensures.is) c.for_all.ensures.normal)

pub returns : goal.returns
returns g c = rw (c.from_parts.ensures, c.in-Ok.ensures, c.for_all.ensures.is, c.in_ok-listed.ensures, c.listed.ensures.is) refl
