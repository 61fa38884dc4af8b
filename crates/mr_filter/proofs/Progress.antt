-- how far a walk over the pieces of a text has come
use Rattle.std.proofs.Common.{◌≡◌, ℕ, ◌+◌, List, [], ◌∷◌, ◌++◌, length, ◌∙◌, arith, append_assoc, true, false, eqb, Option}
use Rattle.mr_filter.proofs.Names.{AllByRecursion, IfNone, IfSome, MatchOption, bytes_eq-Decides, cut_at, false≢true, is_some, pointwise, true≢false, width}
use Rattle.std.proofs.lemmas.List.Sums.{sum_by-append}

-- the pieces before the rest are all fine, and the rest has this many bytes of the text before it
pub record HasPassed (mark : ℕ) (Fine : List ℕ → Type 0) (text rest : List ℕ) (place : ℕ) : Type 0 where
  pub before : List (List ℕ)
  pub pieces : cut_at mark text ≡ before ++ cut_at mark rest
  pub fine : AllByRecursion Fine before
  pub place_is : place ≡ width before
  pub left : place + length rest ≡ length text

AllByRecursion-push : (Fine : List ℕ → Type 0) (before : List (List ℕ)) (piece : List ℕ) → AllByRecursion Fine before → Fine piece → AllByRecursion Fine (before ++ piece ∷ [])
AllByRecursion-push Fine [] piece each here = (here, tt)
AllByRecursion-push Fine (x ∷ before) piece each here = (each.0, AllByRecursion-push Fine before piece each.1 here)

width-push : (before : List (List ℕ)) (piece : List ℕ) → width (before ++ piece ∷ []) ≡ width before + (length piece + 3)
width-push before piece = let both = sum_by-append (λ p. length p + 3) before (piece ∷ []) in omega (arith, both)

-- one more piece
pub HasPassed-more : (mark : ℕ) (Fine : List ℕ → Type 0) (text rest : List ℕ) (place : ℕ) (piece next : List ℕ) (later : ℕ) → HasPassed mark Fine text rest place → Fine piece → cut_at mark rest ≡ piece ∷ cut_at mark next → length piece + 3 + length next ≡ length rest → later ≡ place + (length piece + 3) → HasPassed mark Fine text next later
HasPassed-more mark Fine text rest place piece next later passed here cut long is = grind (arith, width-push, append_assoc, AllByRecursion-push)

-- the last piece
pub HasPassed-all : (mark : ℕ) (Fine : List ℕ → Type 0) (text rest : List ℕ) (place : ℕ) (piece : List ℕ) → HasPassed mark Fine text rest place → Fine piece → cut_at mark rest ≡ piece ∷ [] → AllByRecursion Fine (cut_at mark text)
HasPassed-all mark Fine text rest place piece passed here cut = grind (arith, AllByRecursion-push)

-- what is cut off is the first piece
pub cut-front : {X : Type 0} (more : Option X) (pieces : List (List ℕ)) (piece : List ℕ) (behind : X → List (List ℕ)) → MatchOption more (pieces ≡ piece ∷ []) (λ rest. pieces ≡ piece ∷ behind rest) → (after : List (List ℕ)) × (pieces ≡ piece ∷ after)
cut-front more pieces piece behind is = grind arith

pub at_none : {X : Type 0} (found : Option X) (P : Type 0) → IfNone found P → is_some found ≡ false → P
at_none found P holds h = grind (arith, true≢false)

pub found_at : {X Y : Type 0} (found : Option X) (P : Y → Type 0) (meaning : X → Y) → IfSome found (λ x. P (meaning x)) → is_some found ≡ true → (y : Y) × P y
found_at found P meaning holds some = grind (arith, true≢false)

-- what a test told apart is not the same text
pub other_text : (xs ys : List ℕ) → false ≡ pointwise eqb xs ys → xs ≡ ys → ⊥
other_text xs ys told same = false≢true (told ∙ (bytes_eq-Decides xs ys).1 same)
