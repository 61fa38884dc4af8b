use Rattle.std.proofs.Common.{◌≡◌, drop}
use Rattle.mr_sync.specs.Taken.{with_waiting}
use Rattle.mr_sync.proofs.vouching.note_waiting.Given as goal

-- what waits with those that are left is what waits with all
abbrev pub invariant-loop-one : goal.invariant-loop-one
invariant-loop-one l = with_waiting l.waiting.entries (drop l.one-index l.list) ≡ with_waiting l.fn.waiting.entries l.list
