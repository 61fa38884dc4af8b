-- A worked row is a run by the test.
use Rattle.std.proofs.Common.{◌≡◌, refl, ap, arith, ◌==◌, Bool, true, false, not, ◌||◌, ◌&&◌, if◌then◌else◌, IsTrue, eqb-true}
use Rattle.mr_model.proofs.Names.{AreSoundTests, Conflicts, Name, Row, Runs, conflict, inbox, is_run, now, row_setting, row_tests, start, work, ◌•◌}
use Rattle.mr_model.proofs.CheckSound.{check_sound}

-- ---- the filters of the rows

-- a filter covers another where it is all; or that is not all, and this takes two labels or that takes one
pub label_covers : (all_k two_k all_r two_r first second : Bool) → IsTrue (all_k || (not all_r && (two_k || not two_r))) → IsTrue (if all_r then true else if two_r then first || second else first) →
    IsTrue (if all_k then true else if two_k then first || second else first)
label_covers all_k two_k all_r two_r first second h k = grind arith

pub row_tests_sound : AreSoundTests row_setting row_tests
row_tests_sound = record {
  covers = λ k r h message selected. label_covers (k == 0) (k == 2) (r == 0) (r == 2) (message == inbox) (message == work) h selected;
  same_card = λ a b h. eqb-true a b h;
}

pub is_run_by_test : (h : Row) → is_run row_setting row_tests start h ≡ true → Runs h
is_run_by_test h passes = check_sound row_setting row_tests row_tests_sound h passes

-- the two edits of the conflict
pub conflicting : Conflicts (now row_setting conflict).issues (1 • 1) (2 • 1)
conflicting = record {
  first_issued = refl;
  second_issued = refl;
  one_item = refl;
  differ = λ p. (let e : (1 • 1).author ≡ (2 • 1).author = ap (λ (z : Name). z.author) p in absurd (omega arith));
  not_first = λ h. (let e : false ≡ true = h in absurd (cc));
  not_second = λ h. (let e : false ≡ true = h in absurd (cc));
}
