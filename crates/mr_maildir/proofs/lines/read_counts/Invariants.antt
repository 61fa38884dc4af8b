use Rattle.std.proofs.Common.{◌≡◌, ◌≤◌, ◌-◌, ◌++◌, ℕ, List, true, false, length, drop, map}
use Rattle.mr_joins.specs.declared.mark.Mark.{Mark}
use Rattle.mr_maildir.proofs.Names.{list_all}
use Rattle.mr_maildir.specs.Counts.{counts_lines, is_mark}
use Rattle.mr_maildir.specs.inner.Lines.{begins_counts}
use Rattle.mr_maildir.proofs.LinesLemmas.{CountsLeft}
use Rattle.mr_maildir.proofs.lines.read_counts.Given as goal

abbrev pub invariant-loop-i : goal.invariant-loop-i
invariant-loop-i l = record {
  in_range : l.i ≤ length l.lines;
  kept : list_all is_mark l.fn.marks.items ≡ true → list_all is_mark l.marks.items ≡ true;
  whole : (told : List Mark) (rest : List (List ℕ)) → list_all is_mark told ≡ true → begins_counts rest ≡ false → map (λ line. line.now) (drop l.fn.from l.lines) ≡ counts_lines l.own told ++ rest
      → CountsLeft l.own (drop l.i l.lines) rest l.fn.marks.items told l.marks.items;
}

abbrev pub decreases-loop-i : goal.decreases-loop-i
decreases-loop-i l = length l.lines - l.i
