use Rattle.std.proofs.Common.{◌≡◌, ◌-◌, ◌++◌, true, length, drop, map, string_bytes}
use Rattle.mr_maildir.proofs.Names.{list_all}
use Rattle.mr_maildir.specs.Lines.{is_other_line}
use Rattle.mr_maildir.proofs.lines.read_others.Given as goal

abbrev pub invariant-loop-i : goal.invariant-loop-i
invariant-loop-i l = record {
  kept : list_all is_other_line (map string_bytes l.fn.others.items) ≡ true → list_all is_other_line (map string_bytes l.others.items) ≡ true;
  whole : list_all is_other_line (map (λ line. line.now) (drop l.fn.from l.lines)) ≡ true → (list_all is_other_line (map (λ line. line.now) (drop l.i l.lines)) ≡ true)
      × (map string_bytes l.others.items ++ map (λ line. line.now) (drop l.i l.lines) ≡ map string_bytes l.fn.others.items ++ map (λ line. line.now) (drop l.fn.from l.lines));
}

abbrev pub decreases-loop-i : goal.decreases-loop-i
decreases-loop-i l = length l.lines - l.i
