use Rattle.std.proofs.Common.{◌≤◌, length}
use Rattle.mr_sync.proofs.Names.{FrontIs, MAX_FRAMES_BYTES}
use Rattle.mr_sync.proofs.said.front_frames.Given as goal

abbrev pub invariant-loop : goal.invariant-loop
invariant-loop l = record { short : length l.bytes.items ≤ MAX_FRAMES_BYTES; told : FrontIs l.fn.frames.items l.bytes.items l.frames.items }
