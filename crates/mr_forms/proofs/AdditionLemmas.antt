use Rattle.std.proofs.Common.{◌≡◌, Bool, true, false, ◌||◌, List, [], ◌∷◌, ◌++◌, refl, ap, arith}
use Rattle.mr_forms.proofs.Names.{IsTotalOrder, Ordering, insert_key, is_eq, list_any, match_ordering, taken_back, tied_itself}
use Rattle.std.specs.BTreeMap.{is_at}
use Rattle.std.specs.Set.{remove_key}

-- the last key that was added is the first to be taken back
pub taken_back-push : {K : Type 0} (cmp : K → K → Ordering) (added : List K) (x : K) (keys : List K) → taken_back cmp (added ++ x ∷ []) keys ≡ taken_back cmp added (remove_key (is_at (cmp x)) keys)
taken_back-push cmp [] x keys = refl
taken_back-push cmp (y ∷ added) x keys = ap (remove_key (is_at (cmp y))) (taken_back-push cmp added x keys)

remove_key-here : {K : Type 0} (test : K → Bool) (k : K) (keys : List K) → test k ≡ true → remove_key test (k ∷ keys) ≡ keys
remove_key-here test k keys passes = rw passes refl

remove_key-past : {K : Type 0} (test : K → Bool) (x : K) (keys rest : List K) → test x ≡ false → remove_key test keys ≡ rest → remove_key test (x ∷ keys) ≡ x ∷ rest
remove_key-past test x keys rest fails without = rw (fails, without) refl

or_false_right : (a b : Bool) → (a || b) ≡ false → b ≡ false
or_false_right a b h = grind arith

or_false_left : (a b : Bool) → (a || b) ≡ false → a ≡ false
or_false_left a b h = grind arith

remove_key-insert_step : {K : Type 0} {cmp : K → K → Ordering} (laws : IsTotalOrder cmp) (x : K) (keys : List K) (k : K) (o : Ordering) → cmp k x ≡ o → is_at (cmp k) x ≡ false → remove_key (is_at (cmp k)) (insert_key cmp keys k) ≡ keys → remove_key (is_at (cmp k)) (match_ordering o (k ∷ x ∷ keys) (x ∷ keys) (x ∷ insert_key cmp keys k)) ≡ x ∷ keys
remove_key-insert_step laws x keys k o e apart rest = grind (arith, remove_key-here, tied_itself, remove_key-past)

-- a new key that is put in and taken out leaves the keys as they were
pub remove_key-insert_key : {K : Type 0} {cmp : K → K → Ordering} (laws : IsTotalOrder cmp) (keys : List K) (k : K) → list_any (is_at (cmp k)) keys ≡ false → remove_key (is_at (cmp k)) (insert_key cmp keys k) ≡ keys
remove_key-insert_key {K} {cmp} laws [] k absent = remove_key-here (is_at (cmp k)) k [] (ap is_eq (tied_itself laws k))
remove_key-insert_key {K} {cmp} laws (x ∷ keys) k absent = grind (arith, remove_key-insert_key laws keys k, remove_key-insert_step, or_false_left, or_false_right)
