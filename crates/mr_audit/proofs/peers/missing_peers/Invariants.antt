use Rattle.std.proofs.Common.{◌≡◌}
use Rattle.std.specs.Prelude.{filter}
use Rattle.std.specs.List.{range_with_len}
use Rattle.mr_audit.specs.Peers.{is_missing}
use Rattle.mr_audit.proofs.peers.missing_peers.Given as goal

abbrev pub invariant-loop-id : goal.invariant-loop-id
invariant-loop-id g l = l.peers.items ≡ filter (is_missing l.ends) (range_with_len 0 l.id)
