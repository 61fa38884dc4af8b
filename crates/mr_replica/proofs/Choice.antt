-- what an answer that is there, or is not, says of the tests behind it
use Rattle.std.proofs.Common.{◌≡◌, ◌<◌, ◌+◌, ◌==◌, nat_le, ℕ, zero, suc, Bool, true, false, ◌&&◌, ◌++◌, arith, length, get_or, take, refl, sym, ap, subst, ◌∙◌, List, [], ◌∷◌, Option, Some, None, IfSome, inl, inr}
use Rattle.mr_replica.proofs.Names.{All, All-head, All-tail, LogFull, Numbered, Refusal, State, at, cases_Bool, find, leb-false, list_all, log_full}
use Rattle.mr_replica.proofs.Names.{option_map, refused_if, take_more, unnamed, ◌orelse◌}
use Rattle.std.proofs.lemmas.List.Folds.{find-append, list_all-append}

-- where none of several answers comes, neither the first does nor the others
pub first_none : {A : Type 0} (a b : Option A) → (a orelse b) ≡ None → a ≡ None
first_none a b h = grind arith

pub later_none : {A : Type 0} (a b : Option A) → (a orelse b) ≡ None → b ≡ None
later_none a b h = grind arith

pub all_none : {A : Type 0} (a b c d : Option A) → (a orelse b orelse c orelse d) ≡ None → (b ≡ None) × (c ≡ None) × (d ≡ None)
all_none None None None d h = (refl, refl, h)
all_none (Some x) b c d h = cc
all_none None (Some x) c d h = cc
all_none None None (Some x) d h = cc

-- a refusal whose case does not hold
pub not_refused : (b : Bool) (e : Refusal) → refused_if b e ≡ None → b ≡ false
not_refused b e h = grind arith

-- the log has a place where nothing refuses the event
pub short_log : {K : Type 0} (s : State K) (first : Option Refusal) → (first orelse log_full s) ≡ None → length s.log < s.event_limit
short_log s first none = leb-false s.event_limit (length s.log) (not_refused (nat_le s.event_limit (length s.log)) LogFull (later_none first (log_full s) none))

pub map_none : {A B : Type 0} (f : A → B) (o : Option A) → option_map f o ≡ None → o ≡ None
map_none f o h = grind arith

pub some_same : {X : Type 0} (a b : X) → Some a ≡ Some b → a ≡ b
some_same a b h = cc

pub not_some : {X : Type 0} (o : Option X) → ((x : X) → o ≡ Some x → ⊥) → o ≡ None
not_some None f = refl
not_some (Some x) f = absurd (f x refl)

pub each_some : {X : Type 0} {P : X → Type 0} (o : Option X) → ((x : X) → o ≡ Some x → P x) → IfSome o P
each_some None f = tt
each_some (Some x) f = f x refl

-- what is found has the fact that all have, and passes the test
pub found_has : {X : Type 0} (P : X → Type 0) (p : X → Bool) (xs : List X) (x : X) → All P xs → find p xs ≡ Some x → P x × (p x ≡ true)
found_has P p [] x all found = cc
found_has P p (y ∷ ys) x all found =
    elim (cases_Bool (p y)) [
      | inl passes ↦
          let same : y ≡ x = some_same y x (rw passes at found) in
          (subst P same (All-head P y ys all), ap p (sym same) ∙ passes)
      | inr fails ↦ found_has P p ys x (All-tail P y ys all) (rw fails at found)
    ]

-- and so has what is under a number
pub at_has : {T : Type 0} (P : T → Type 0) (n : ℕ) (v : T) (xs : List (Numbered T)) → All (λ (x : Numbered T). P x.value) xs → at xs n ≡ Some v → P v
at_has P n v [] all found = cc
at_has {T} P n v (x ∷ xs) all found =
    elim (cases_Bool (x.number == n)) [
      | inl same ↦ subst P (some_same x.value v (rw same at found)) (All-head (λ (x : Numbered T). P x.value) x xs all)
      | inr other ↦ at_has P n v xs (All-tail (λ (x : Numbered T). P x.value) x xs all) (rw other at found)
    ]

-- ---- a place more of a list

-- the first that passes is at this place
pub find_here : {X : Type 0} (p : X → Bool) (xs : List X) (k : ℕ) (x : X) → k < length xs → x ≡ get_or xs k x → find p (take k xs) ≡ None → p x ≡ true → find p xs ≡ Some x
find_here p [] k x within at none passes = absurd (omega arith)
find_here p (y ∷ ys) zero x within at none passes = rw (ap p (sym at) ∙ passes) (ap Some (sym at))
find_here p (y ∷ ys) (suc k) x within at none passes = grind (arith, find_here p ys k x, unnamed)

more : {X : Type 0} (xs : List X) (k : ℕ) (x : X) → k < length xs → x ≡ get_or xs k x → take (k + 1) xs ≡ take k xs ++ x ∷ []
more xs k x within at = take_more xs k x within ∙ ap (λ y. take k xs ++ y ∷ []) (sym at)

-- none passes, nor does the next
pub find_none_more : {X : Type 0} (p : X → Bool) (xs : List X) (k : ℕ) (x : X) → k < length xs → x ≡ get_or xs k x → find p (take k xs) ≡ None → p x ≡ false → find p (take (k + 1) xs) ≡ None
find_none_more p xs k x within at none fails =
    ap (find p) (more xs k x within at) ∙ find-append p (take k xs) (x ∷ []) ∙ rw (none, fails) refl

-- all pass, and so does the next
pub list_all-take_more : {X : Type 0} (p : X → Bool) (xs : List X) (k : ℕ) (x : X) → k < length xs → x ≡ get_or xs k x → list_all p (take (k + 1) xs) ≡ (list_all p (take k xs) && p x)
list_all-take_more p xs k x within at =
    ap (list_all p) (more xs k x within at) ∙ list_all-append p (take k xs) (x ∷ []) ∙ ap (λ b. list_all p (take k xs) && b) (and_true (p x))
  where
    and_true : (b : Bool) → (b && true) ≡ b
    and_true true = refl
    and_true false = refl
