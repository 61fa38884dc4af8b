use Rattle.std.proofs.Common.{◌≤◌, [], length, take}
use Rattle.mr_talk.specs.Packed.{Tells, begun}
use Rattle.mr_talk.proofs.packing.packed_runs.Given as goal

-- what is packed tells as much of the frame as was passed
abbrev pub invariant-loop : goal.invariant-loop
invariant-loop l = record {
  within : l.at ≤ length l.frame;
  inside : l.place ≤ length l.before;
  tells : Tells l.packed.items (begun l.before []) (record { before = l.before; place = l.place; now = take l.at l.frame; told = [] });
}
