use Rattle.std.proofs.Common.{inl, inr, ◌≡◌, ap, sym, ◌∙◌, arith, List, [], ◌∷◌, ◌++◌, length, All, length-append, append_assoc}
use Rattle.mr_concise.proofs.Names.{AllZip, Any, ConciseFragment, IsConciseOf, IsTooHoley, Versions, append-nil, cases_lt, get_or-append_seam}
use Rattle.mr_concise.proofs.Names.{get_or_append_left}
use Rattle.mr_forms.specs.declared.fragment.Fragment.{Fragment}

-- one element more in each list
AllZip-last : {X Y : Type 0} (R : X → Y → Type 0) (xs : List X) (ys : List Y) (x : X) (y : Y) → AllZip R xs ys → R x y → AllZip R (xs ++ x ∷ []) (ys ++ y ∷ [])
AllZip-last R [] [] x y all r = (r, tt)
AllZip-last R [] (v ∷ ys) x y all r = absurd all
AllZip-last R (u ∷ xs) [] x y all r = absurd all
AllZip-last R (u ∷ xs) (v ∷ ys) x y all r = (all.0, AllZip-last R xs ys x y all.1 r)

-- one element more
All-last : {X : Type 0} (P : X → Type 0) (xs : List X) (x : X) → All P xs → P x → All P (xs ++ x ∷ [])
All-last P xs x all p k d l = elim (cases_lt k (length xs)) [
  | inl a ↦ rw (get_or_append_left xs (x ∷ []) d k a) (all k d a)
  | inr b ↦ let at : k ≡ length xs = let e = length-append xs (x ∷ []) in omega arith in rw (at, get_or-append_seam xs x [] d) p
]

-- How far fragments are made concise: those before the ones that are left, none of which is too holey.
pub record ConciseSoFar {V : Type 0} (has : V → Versions) (all yielded left : List (Fragment V)) (concise : List ConciseFragment) : Type 0 where
  pub whole : all ≡ yielded ++ left
  pub each : AllZip (IsConciseOf has) yielded concise
  pub few : All (λ fragment. ¬ IsTooHoley has fragment) yielded

-- at first none is made
pub ConciseSoFar-begin : {V : Type 0} (has : V → Versions) (all left : List (Fragment V)) → left ≡ all → ConciseSoFar has all [] left []
ConciseSoFar-begin has all left e = record { whole = sym e; each = tt; few = λ k d l. absurd (omega arith) }

-- one fragment more
pub ConciseSoFar-more : {V : Type 0} (has : V → Versions) (all yielded left next : List (Fragment V)) (concise : List ConciseFragment) (x : Fragment V) (y : ConciseFragment) → ConciseSoFar has all yielded left concise → left ≡ x ∷ next → IsConciseOf has x y → (¬ IsTooHoley has x) → ConciseSoFar has all (yielded ++ x ∷ []) next (concise ++ y ∷ [])
ConciseSoFar-more has all yielded left next concise x y w taken is few = record {
  whole = w.whole ∙ ap (λ rest. yielded ++ rest) taken ∙ sym (append_assoc yielded (x ∷ []) next);
  each = AllZip-last (IsConciseOf has) yielded concise x y w.each is;
  few = All-last (λ fragment. ¬ IsTooHoley has fragment) yielded x w.few few;
}

-- one that is left is among them all
pub holey-among : {V : Type 0} (has : V → Versions) (all yielded left next : List (Fragment V)) (concise : List ConciseFragment) (x : Fragment V) → ConciseSoFar has all yielded left concise → left ≡ x ∷ next → IsTooHoley has x → Any (IsTooHoley has) all
holey-among has all yielded left next concise x w taken h = rw (w.whole, taken) (length yielded, x, let e = length-append yielded (x ∷ next) in omega arith, get_or-append_seam yielded x next x, h)

-- at the end all are made
pub ConciseSoFar-end : {V : Type 0} (has : V → Versions) (all yielded left : List (Fragment V)) (concise : List ConciseFragment) → ConciseSoFar has all yielded left concise → left ≡ [] → AllZip (IsConciseOf has) all concise × All (λ fragment. ¬ IsTooHoley has fragment) all
ConciseSoFar-end has all yielded left concise w none = rw (w.whole, none, append-nil yielded) (w.each, w.few)
