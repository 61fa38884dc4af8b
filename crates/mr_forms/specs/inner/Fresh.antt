-- Some item is not in a list: laws of forms rest on it.
use Rattle.std.specs.Prelude.{◌≡◌, ◌+◌, ◌<◌, ℕ, suc, true, false, ◌||◌, List, [], ◌∷◌, ◌++◌, refl}
use Rattle.std.specs.declared.cmp.Ordering.{Ordering}
use Rattle.std.specs.declared.cmp.Ordering.TheVariants.{Less, Equal, Greater}
use Rattle.std.specs.Ordering.{is_eq}
use Rattle.std.proofs.Common.{ap, sym, subst, ◌∙◌}
use Rattle.std.proofs.Math.Nat.{le-add_left, le-add_right, lt_irrefl, lt_of_le_of_lt, lt-suc_self}
use Rattle.std.proofs.lemmas.Bool.{false≢true, false_from_ne_true, or_parts}
use Rattle.mr_version.specs.Name.{Name, name_cmp, name_eq}
use Rattle.mr_version.specs.Order.{exact_names}
use Rattle.mr_forms.specs.Sets.{is_listed}

is_equal : (o : Ordering) → is_eq o ≡ true → o ≡ Equal
is_equal Less e = absurd (false≢true e)
is_equal Equal e = refl
is_equal Greater e = absurd (false≢true e)

-- names that pass the test are one
pub same_name : (a b : Name) → name_eq a b ≡ true → a ≡ b
same_name a b same = exact_names a b (is_equal (name_cmp a b) same)

-- a sum that is at least each item's counter
abbrev pub counters : List Name → ℕ
counters [] = 0
counters (i ∷ items) = i.counter + counters items

abbrev pub at_counter : ℕ → Name
at_counter n = record { author = 0; counter = n }

unlisted-above : (n : ℕ) (items : List Name) → counters items < n → is_listed items (at_counter n) ≡ false
unlisted-above n [] above = refl
unlisted-above n (i ∷ items) above =
    ap (λ b. b || is_listed items (at_counter n))
    (false_from_ne_true (name_eq (at_counter n) i) (λ same. lt_irrefl n (subst (λ (m : ℕ). m < n) (sym (ap (λ (a : Name). a.counter) (same_name (at_counter n) i same))) (lt_of_le_of_lt (le-add_right i.counter (counters items)) above))))
    ∙ unlisted-above n items (lt_of_le_of_lt (le-add_left (counters items) i.counter) above)

-- an item that is not in the list
pub unlisted_item : (items : List Name) → (i : Name) × (is_listed items i ≡ false)
unlisted_item items = (at_counter (suc (counters items)), unlisted-above (suc (counters items)) items (lt-suc_self (counters items)))

unlisted_both : (xs ys : List Name) (i : Name) → is_listed (xs ++ ys) i ≡ false → (is_listed xs i ≡ false) × (is_listed ys i ≡ false)
unlisted_both [] ys i free = (refl, free)
unlisted_both (x ∷ xs) ys i free =
    let parts = or_parts (name_eq i x) (is_listed (xs ++ ys) i) free in
    let rest = unlisted_both xs ys i parts.1 in
    (ap (λ b. b || is_listed xs i) parts.0 ∙ rest.0, rest.1)

-- an item that is in neither of two lists
pub unlisted_in_both : (xs ys : List Name) → (i : Name) × ((is_listed xs i ≡ false) × (is_listed ys i ≡ false))
unlisted_in_both xs ys = let free = unlisted_item (xs ++ ys) in (free.0, unlisted_both xs ys free.0 free.1)
