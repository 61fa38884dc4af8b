use Rattle.std.proofs.Common.{◌≡◌, ◌+◌, ◌<◌, ◌||◌, ℕ, Bool, List, [], ◌∷◌, ◌++◌, All, AllPairs, length, take, get_or, arith}
use Rattle.mr_forms.proofs.Names.{get_or-append, get_or-append_seam, length-append, list_any, list_any_more}
use Rattle.mr_forms.proofs.SetLemmas.{or_comm}

-- what holds of a list with one element more holds of the list, and of the element
pub All-front : {X : Type 0} (P : X → Type 0) (xs : List X) (y : X) → All P (xs ++ y ∷ []) → All P xs
All-front P xs y all k d within = rw (get_or-append xs (y ∷ []) d k within) at (all k d (simp length-append (omega arith)))

pub All-last : {X : Type 0} (P : X → Type 0) (xs : List X) (y : X) → All P (xs ++ y ∷ []) → P y
All-last P xs y all = rw (get_or-append_seam xs y [] y) at (all (length xs) y (simp length-append (omega arith)))

pub AllPairs-front : {X : Type 0} (R : X → X → Type 0) (xs : List X) (y : X) → AllPairs R (xs ++ y ∷ []) → AllPairs R xs
AllPairs-front R xs y all i j d before within = grind (arith, get_or-append, length-append)

pub AllPairs-last : {X : Type 0} (R : X → X → Type 0) (xs : List X) (y : X) → AllPairs R (xs ++ y ∷ []) → All (λ x. R x y) xs
AllPairs-last R xs y all k d within =
    rw (get_or-append xs (y ∷ []) d k within, get_or-append_seam xs y [] d) at (all k (length xs) d within (simp length-append (omega arith)))

-- one of those up to here passes: the one that is here, or one before it
pub list_any-here : {X : Type 0} (p : X → Bool) (xs : List X) (i : ℕ) (x : X) → i < length xs → x ≡ get_or xs i x → list_any p (take (i + 1) xs) ≡ (p x || list_any p (take i xs))
list_any-here p xs i x within here = grind (arith, list_any_more, or_comm)
