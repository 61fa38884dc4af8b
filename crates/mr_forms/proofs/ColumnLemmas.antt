use Rattle.std.proofs.Common.{◌≡◌, ◌≤◌, ◌+◌, ℕ, Bool, false, ◌||◌, ◌&&◌, ◌==◌, nat_le, List, [], ◌∷◌, ◌++◌, All, AllPairs, get_or, ap, sym, ◌∙◌, arith, inr}
use Rattle.mr_forms.proofs.Names.{All-from_recursion, All-nil, All-push, All-weaker, EndsBelow, EndsUpTo, GainsVersion, IsStrictlySortedBy, Less, Name}
use Rattle.mr_forms.proofs.Names.{StandsBefore, all_pairs_push, cases_lt, in_run, in_runs, list_any-append, name_cmp, name_eq, nat_tests, sorted_head}
use Rattle.mr_forms.specs.declared.run.Run.{Run}
use Rattle.mr_forms.proofs.ListLemmas.{All-front, All-last, AllPairs-front, AllPairs-last}
use Rattle.mr_forms.proofs.SetLemmas.{name_eq-parts, parts_from_less}

below_is_up_to : (v : Name) (run : Run) → EndsBelow v run → EndsUpTo v run
below_is_up_to v run h = grind arith

-- the run of one version
in_run-one : (v w : Name) (run : Run) → run.author ≡ v.author → run.first ≡ v.counter → run.last ≡ v.counter → in_run run w ≡ name_eq v w
in_run-one v w run author first last = rw (name_eq-parts v w, author, first, last) (grind (arith, nat_tests))

grown_tests : (author first last w_author w_counter : ℕ) → first ≤ last → ((w_author == author) && (nat_le first w_counter && nat_le w_counter (last + 1))) ≡ (((author == w_author) && ((last + 1) == w_counter)) || ((w_author == author) && (nat_le first w_counter && nat_le w_counter last)))
grown_tests author first last w_author w_counter ordered = grind (arith, nat_tests)

-- a run that grows by its next version
in_run-grown : (v w : Name) (run grown : Run) → grown.author ≡ run.author → grown.first ≡ run.first → grown.last ≡ v.counter → run.author ≡ v.author → run.last + 1 ≡ v.counter → in_run grown w ≡ (name_eq v w || in_run run w)
in_run-grown v w run grown same_author same_first last author next = grind (arith, name_eq-parts, grown_tests)

or_swap : (a b : Bool) → (a || (b || false)) ≡ (b || a)
or_swap a b = grind arith

or_move : (a b c : Bool) → (a || ((b || c) || false)) ≡ (b || (a || (c || false)))
or_move a b c = grind arith

-- a run of the version alone is put at the end
pub gains_run : (runs : List Run) (v : Name) (run : Run) → run.author ≡ v.author → run.first ≡ v.counter → run.last ≡ v.counter → All (EndsBelow v) runs → (AllPairs StandsBefore runs → All (λ r. StandsBefore r run) runs) → GainsVersion runs (runs ++ run ∷ []) v
gains_run runs v run author first last below before = record {
  have = λ w. list_any-append (λ r. in_run r w) runs (run ∷ []) ∙ ap (λ b. in_runs runs w || (b || false)) (in_run-one v w run author first last) ∙ or_swap (in_runs runs w) (name_eq v w);
  apart = λ all. all_pairs_push StandsBefore runs run all (λ k d within. before all k d within);
  up_to = All-push (EndsUpTo v) runs run (All-weaker (EndsBelow v) (EndsUpTo v) (below_is_up_to v) runs below) (inr (author, omega arith));
}

-- the last run grows by the version
pub grows_run : (runs : List Run) (v : Name) (run grown : Run) → grown.author ≡ run.author → grown.first ≡ run.first → grown.last ≡ v.counter → run.author ≡ v.author → run.last + 1 ≡ v.counter → All (EndsBelow v) runs → GainsVersion (runs ++ run ∷ []) (runs ++ grown ∷ []) v
grows_run runs v run grown same_author same_first last author next below = record {
  have = λ w. list_any-append (λ r. in_run r w) runs (grown ∷ [])
      ∙ ap (λ b. in_runs runs w || (b || false)) (in_run-grown v w run grown same_author same_first last author next)
      ∙ or_move (in_runs runs w) (name_eq v w) (in_run run w)
      ∙ ap (λ b. name_eq v w || b) (sym (list_any-append (λ r. in_run r w) runs (run ∷ [])));
  apart = λ all. all_pairs_push StandsBefore runs grown (AllPairs-front StandsBefore runs run all) (λ k d within. let stands : StandsBefore (get_or runs k d) run = AllPairs-last StandsBefore runs run all k d within in rw (same_author, same_first) stands);
  up_to = All-push (EndsUpTo v) runs grown (All-weaker (EndsBelow v) (EndsUpTo v) (below_is_up_to v) runs below) (inr (same_author ∙ author, omega arith));
}

-- before a run of the version stand a run that ends below it but does not touch it, and what stands before that run
pub stands_before-run : (r run : Run) (v : Name) → run.author ≡ v.author → run.first ≡ v.counter → EndsBelow v r → ¬ ((r.author ≡ v.author) × (r.last + 1 ≡ v.counter)) → StandsBefore r run
stands_before-run r run v author first h apart = grind (arith, cases_lt)

pub stands_before-through : (a b c : Run) → StandsBefore a b → StandsBefore b c → StandsBefore a c
stands_before-through a b c h k = grind arith

-- what ends by v ends below each w above v
pub ends_below-later : (v w : Name) (run : Run) → name_cmp v w ≡ Less → EndsUpTo v run → EndsBelow w run
ends_below-later v w run less ends = grind (arith, parts_from_less)

-- runs that end by v end below each version after v
pub ends_below-rest : (v : Name) (rest : List Name) (runs : List Run) → IsStrictlySortedBy name_cmp (v ∷ rest) → All (EndsUpTo v) runs → All (λ w. All (EndsBelow w) runs) rest
ends_below-rest v rest runs sorted ends = grind (arith, All-weaker, ends_below-later, All-from_recursion, sorted_head)

-- the three ways in which runs gain a version: as the first run, by the last run, as a run after the last
pub gains_first : (old new : List Run) (v : Name) (run : Run) → old ≡ [] → new ≡ run ∷ [] → run.author ≡ v.author → run.first ≡ v.counter → run.last ≡ v.counter → GainsVersion old new v
gains_first old new v run was is author first last = rw (was, is) (gains_run [] v run author first last (All-nil (EndsBelow v)) (λ _. All-nil (λ r. StandsBefore r run)))

pub gains_in_last : (old new front : List Run) (v : Name) (run grown : Run) → old ≡ front ++ run ∷ [] → new ≡ front ++ grown ∷ [] → grown.author ≡ v.author → grown.first ≡ run.first → grown.last ≡ v.counter → (run.author ≡ v.author) × (run.last + 1 ≡ v.counter) → All (EndsBelow v) old → GainsVersion old new v
gains_in_last old new front v run grown was is author first last (same, next) below =
    rw (was, is) (grows_run front v run grown (author ∙ sym same) first last same next (All-front (EndsBelow v) front run (rw was at below)))

pub gains_after_last : (old new front : List Run) (v : Name) (last_run run : Run) → old ≡ front ++ last_run ∷ [] → new ≡ (front ++ last_run ∷ []) ++ run ∷ [] → run.author ≡ v.author → run.first ≡ v.counter → run.last ≡ v.counter → ¬ ((last_run.author ≡ v.author) × (last_run.last + 1 ≡ v.counter)) → All (EndsBelow v) old → GainsVersion old new v
gains_after_last old new front v last_run run was is author first last apart below =
    let all_below = rw was at below in
    let gap : StandsBefore last_run run = stands_before-run last_run run v author first (All-last (EndsBelow v) front last_run all_below) apart in
    rw (was, is) (gains_run (front ++ last_run ∷ []) v run author first last all_below
    (λ all. All-push (λ r. StandsBefore r run) front last_run
    (All-weaker (λ r. StandsBefore r last_run) (λ r. StandsBefore r run) (λ r stands. stands_before-through r last_run run stands gap) front (AllPairs-last StandsBefore front last_run all)) gap))
