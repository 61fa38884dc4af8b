use Rattle.std.proofs.Common.{◌≡◌, ◌≤◌, ◌-◌, List, ◌++◌, true, drop, length, map}
use Rattle.mr_joins.specs.declared.mark.Mark.{Mark}
use Rattle.mr_maildir.proofs.Names.{Bor, list_all}
use Rattle.mr_maildir.specs.Counts.{is_mark}
use Rattle.mr_maildir.specs.inner.Counts.{is_run, pair_words}
use Rattle.mr_maildir.proofs.CountsLemmas.{LeftOf}
use Rattle.mr_maildir.proofs.counts.read_marks.Given as goal

abbrev pub invariant-loop-i : goal.invariant-loop-i
invariant-loop-i l = record {
  in_range : l.i ≤ length l.words;
  kept : list_all is_mark l.fn.marks.items ≡ true → list_all is_mark l.marks.items ≡ true;
  whole : (run : List Mark) → is_run l.item run ≡ true → map (λ word. word.now) (drop l.fn.from l.words) ≡ pair_words run → LeftOf l.item (drop l.i l.words) l.fn.marks.items run l.marks.items;
}

abbrev pub decreases-loop-i : goal.decreases-loop-i
decreases-loop-i l = length l.words - l.i
