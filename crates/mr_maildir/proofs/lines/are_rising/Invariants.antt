use Rattle.std.proofs.Common.{◌≡◌, ◌≤◌, ◌-◌, length, drop, map}
use Rattle.mr_maildir.specs.Lines.{are_rising, folder_of}
use Rattle.mr_maildir.proofs.lines.are_rising.Given as goal

abbrev pub invariant-loop-i : goal.invariant-loop-i
invariant-loop-i l = record {
  from : 1 ≤ l.i;
  same : are_rising (map folder_of (drop (l.i - 1) l.folders)) ≡ are_rising (map folder_of l.folders);
}

abbrev pub decreases-loop-i : goal.decreases-loop-i
decreases-loop-i l = length l.folders - l.i
