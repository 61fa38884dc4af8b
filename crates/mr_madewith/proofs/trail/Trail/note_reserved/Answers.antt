use Rattle.std.proofs.Common.{sym}
use Rattle.mr_madewith.specs.Trail.{item_of_last}
use Rattle.mr_madewith.proofs.Rising.{rises-replaced}
use Rattle.mr_madewith.proofs.trail.Trail.note_reserved.Goals as goal

-- the item's last version was there, and is written over
pub invariant_of-self : goal.invariant_of-self
invariant_of-self c =
    rw (← c.deref.ensures.value, c.in-Ok.ensures.found.over c.args.last (sym c.item.ensures), c.item.ensures)
    (rises-replaced item_of_last c.args.last c.deref.result.now (rw c.deref.ensures.value c.self.invariant))

-- the item is new
pub invariant_of-self-in-Err : goal.invariant_of-self-in-Err
invariant_of-self-in-Err c =
    rw (c.insert.ensures.items, c.unwrap.ensures, ← c.deref.ensures.value, c.in-Err.ensures.absent.put c.args.last (sym c.item.ensures), ← c.in-Err.ensures.absent.all, c.item.ensures)
    (rises-replaced item_of_last c.args.last c.deref.result.now (rw c.deref.ensures.value c.self.invariant))
