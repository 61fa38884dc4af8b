use Rattle.std.proofs.Common.{All, take}
use Rattle.mr_replica.specs.Replay.{IsItsLog}
use Rattle.mr_audit.proofs.beginnings.look_at_logs.Given as goal

abbrev pub invariant-loop-end : goal.invariant-loop-end
invariant-loop-end g l = All (IsItsLog g.K.Knowledge.form) (take l.end-index l.ends)
