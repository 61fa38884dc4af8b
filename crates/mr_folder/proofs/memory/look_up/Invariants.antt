use denote.Shadow.{shadow}
use denote.Text.{Utf8}
use Rattle.std.proofs.Common.{◌≡◌, drop, map}
use Rattle.mr_folder.specs.Memory.{step_of, tree_of}
use Rattle.mr_folder.proofs.memory.look_up.Given as goal

abbrev pub invariant-loop-at : goal.invariant-loop-at
invariant-loop-at l = record {
  found : tree_of (map step_of l.changes.items) l.path ≡ tree_of (drop l.at (map step_of l.changes.items)) l.place;
  text : shadow (Utf8 l.place);
}
