use Rattle.std.proofs.Common.{◌≡◌, ◌++◌, map, take}
use Rattle.mr_sync.proofs.Names.{GrowsOnlyBy, PushOut, Vouch, replica_of}
use Rattle.mr_sync.specs.inner.Vouching.{IsVouchOf}
use Rattle.mr_sync.proofs.vouching.vouch_all.Given as goal

abbrev pub invariant-loop-head : goal.invariant-loop-head
invariant-loop-head g l = record {
  all : (replica_of l.kept).log ≡ (replica_of l.fn.kept).log ++ map (λ (p : PushOut). Vouch p.version) (take l.head-index l.heads);
  grows : GrowsOnlyBy (IsVouchOf l.heads) (replica_of l.fn.kept).log (replica_of l.kept).log;
}
