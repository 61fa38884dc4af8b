use Rattle.std.proofs.Common.{◌≡◌, ◌-◌, ◌++◌, IsTrue, List, ℕ, length}
use Rattle.mr_journal.proofs.Names.{IsUntouched, contents, head}
use Rattle.mr_journal.proofs.ReadLemmas.{ReadTo}
use Rattle.mr_journal.proofs.read.read_batches.Given as goal

abbrev pub invariant-batches : goal.invariant-batches
invariant-batches g l = record {
  so_far : IsTrue g.D.Device.is_told → l.len ≡ length (g.D.Device.seen l.fn.device) → (rest : List ℕ) → g.D.Device.seen l.fn.device ≡ head 1 ++ rest → ReadTo (contents l.entries.items) l.at (g.D.Device.seen l.fn.device);
  untouched : IsTrue g.D.Device.is_told → IsUntouched g.D.Device.seen g.D.Device.may_leave g.D.Device.moment g.D.Device.left_since l.fn.device l.device;
}

abbrev pub decreases-batches : goal.decreases-batches
decreases-batches g l = l.len - l.at
