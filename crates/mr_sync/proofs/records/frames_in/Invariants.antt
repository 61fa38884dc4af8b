use Rattle.std.proofs.Common.{◌≤◌, length, take}
use Rattle.mr_sync.specs.Taken.{AreFrames}
use Rattle.mr_sync.proofs.records.frames_in.Given as goal

abbrev pub invariant-loop : goal.invariant-loop
invariant-loop l = record { within : l.at ≤ length l.bytes; are : AreFrames l.frames.items (take l.at l.bytes) }
