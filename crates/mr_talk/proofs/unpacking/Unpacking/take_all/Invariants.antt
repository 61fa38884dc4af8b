use Rattle.std.proofs.Common.{◌≤◌, ◌+◌, ◌-◌, length, take, drop}
use Rattle.mr_talk.proofs.Names.{MAX_FRAMES_BYTES, Spelled, Tells}
use Rattle.mr_talk.proofs.unpacking.Unpacking.take_all.Given as goal

-- what was taken was told, and whatever all of it tells the rest tells from there
abbrev pub invariant-loop-at : goal.invariant-loop-at
invariant-loop-at l = record {
  within : l.at ≤ length l.bytes;
  taken : Tells (take l.at l.bytes) l.fn.self l.self;
  left : (to : Spelled) → Tells l.bytes l.fn.self to → Tells (drop l.at l.bytes) l.self to;
  few : length l.self.told + length l.self.now ≤ MAX_FRAMES_BYTES;
}

abbrev pub decreases-loop-at : goal.decreases-loop-at
decreases-loop-at l = length l.bytes - l.at
