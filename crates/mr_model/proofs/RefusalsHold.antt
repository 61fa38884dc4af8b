-- What breaks the rules in the refused rows.
use Rattle.std.proofs.Common.{◌≡◌, refl, sym, ap, subst, ℕ, ◌==◌, Bool, true, false, List, [], ◌∷◌, inl, inr, IsTrue, arith, Some}
use Rattle.mr_model.proofs.Names.{Ask, Body, Body.Start, Entry, Entry.Added, Entry.Dropped, HasHeld, In, IsAllowed, IsDue, IsRefused, Name, Record, Row, Step}
use Rattle.mr_model.proofs.Names.{adds, change, is_held, is_run, now, row_setting, row_tests, start, two_to_tell, version_in, ◌•◌}
use Rattle.mr_model.proofs.Theorem.{run_later}
use Rattle.mr_model.proofs.RowsHold.{is_run_by_test}

pub refused_by : (before : Row) {last : Step ℕ ℕ} → is_run row_setting row_tests start before ≡ true → ¬ IsAllowed row_setting (now row_setting before) (change (now row_setting before) last) → IsRefused before last
refused_by before {last} passes never = record { runs = is_run_by_test before passes; refused = λ run. never (run_later row_setting start before (last ∷ []) run).0 }

pub untrue : false ≡ true → ⊥
untrue e = absurd (cc)

pub unfalse : true ≡ false → ⊥
unfalse e = absurd (cc)

pub one_not_two : 0 • 1 ≡ 0 • 2 → ⊥
one_not_two p = let e : (0 • 1).counter ≡ (0 • 2).counter = ap (λ (z : Name). z.counter) p in absurd (omega arith)

pub asked : (x a : Ask) → Some x ≡ Some a → x ≡ a
asked x a e = cc

abbrev pub ask_of_one : Ask
ask_of_one = record { target = 1; session = 1; claimed = [] }

-- the Start of the stream is all that it gave
abbrev pub its_start : Record
its_start = record { source = 0; stream = 1; target = 1; session = 1; index = 0; body = Start true }

pub start_alone : (given : List Record) → given ≡ its_start ∷ [] → ¬ HasHeld given 0 1
start_alone given e h = elim (still_in given e h.0 h.1.is_given) [ inl p ↦ not_held h.0.body (ap (λ (x : Record). x.body) p) h.2 | inr none ↦ none ]
  where
    still_in : (xs : List Record) → xs ≡ its_start ∷ [] → (x : Record) → In x xs → In x (its_start ∷ [])
    still_in xs p x i = rw p at i

    not_held : (b : Body) → Start true ≡ b → ¬ IsTrue (is_held b)
    not_held b e h = untrue (subst (λ (z : Body). IsTrue (is_held z)) (sym e) h)

-- 0.1 is due for the Ask that opened the stream
pub due_for_asker : (a : Ask) → (now row_setting two_to_tell).ask_of 0 1 ≡ Some a → IsDue row_setting (now row_setting two_to_tell) 0 1 a (0 • 1)
due_for_asker a e = subst (λ (b : Ask). IsDue row_setting (now row_setting two_to_tell) 0 1 b (0 • 1)) (asked ask_of_one a e) (record {
  held = inl refl;
  unclaimed = refl;
  told = inl refl;
  ahead = λ x w of e. elim of.is_given [ inl p ↦ absurd (none x.body w (ap (λ (y : Record). y.body) p) e) | inr nowhere ↦ absurd nowhere ];
})
  where
    none : (b : Body) (w : Name) → Start true ≡ b → ¬ (version_in b ≡ Some w)
    none b w p e = let k : version_in (Start true) ≡ Some w = rw (← p) at e in absurd (cc)

-- the list begins with an entry of a first version
abbrev begins_at_first : List (Entry ℕ) → Bool
begins_at_first [] = false
begins_at_first (Added item w card ∷ entries) = w.counter == 1
begins_at_first (Dropped item w ∷ entries) = false

pub first_not_second : (rest : List (Entry ℕ)) → adds 1 ∷ adds 2 ∷ [] ≡ adds 2 ∷ rest → ⊥
first_not_second rest e = unfalse (ap begins_at_first e)
