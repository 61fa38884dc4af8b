use Rattle.std.proofs.Common.{◌≡◌, length}
use Rattle.mr_settle.specs.inner.Explains.{share_id}
use Rattle.mr_settle.proofs.join.share_ids.Given as goal

abbrev pub invariant-loop-first : goal.invariant-loop-first
invariant-loop-first g l = share_id l.rest ≡ share_id l.fn.ends

abbrev pub decreases-loop-first : goal.decreases-loop-first
decreases-loop-first g l = length l.rest
