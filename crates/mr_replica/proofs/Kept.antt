-- the pieces of a knowledge: frames may carry them, and there is one list of them
use Rattle.std.proofs.Common.{◌≡◌, refl, sym, ap, subst, ◌∙◌, arith, List, [], ◌∷◌, map, Option, Some, None}
use Rattle.mr_replica.proofs.Names.{All, All-cons, All-contains, All-head, All-nil, All-tail, AllByRecursion, AllZip, Any, AreItems, AreListable, ArePiecesOf}
use Rattle.mr_replica.proofs.Names.{AuthorColumn, Contains-map, Fragment, HasHoleyPart, HasTooManyHoles, IfSome, IsPieceOf, IsTooHoley, IsVectorOf, ItemsRise}
use Rattle.mr_replica.proofs.Names.{Less, Name, Part, Piece, Versions, columns_unique, few-vector, is_lt, listed_items, name_cmp, part_of, parts_that-unique}
use Rattle.std.specs.List.Sorted.{IsStrictlySortedBy}
use Rattle.std.specs.declared.cmp.Ordering.{Ordering}

-- ---- what a form lists, a frame may

rises_from : (x : Name) (items : List Name) → AllByRecursion (λ z. name_cmp x z ≡ Less) items → IsStrictlySortedBy name_cmp items → ItemsRise (Some x) items
unfolding IsStrictlySortedBy
rises_from x [] above sorted = tt
rises_from x (y ∷ items) above sorted = (ap (λ (o : Ordering). is_lt o) above.0, rises_from y items sorted.0 sorted.1)

rises : (items : List Name) → IsStrictlySortedBy name_cmp items → ItemsRise None items
unfolding IsStrictlySortedBy
rises [] sorted = tt
rises (x ∷ items) sorted = (refl, rises_from x items sorted.0 sorted.1)

pub may_list : (items : Option (List Name)) → IfSome items AreListable → AreItems items
may_list None h = tt
may_list (Some []) h = absurd (h.some refl)
may_list (Some (x ∷ items)) h = (omega arith, h.few, rises (x ∷ items) h.rising)

module _ {V : Type 0} (has : V → Versions) where
  pub all_may_list : (fs : List (Fragment V)) → All (λ p. IfSome p.items AreListable) (map (part_of has) fs) → All (λ f. AreItems (listed_items f.items)) fs
  all_may_list [] h = All-nil (λ (f : Fragment V). AreItems (listed_items f.items))
  all_may_list (f ∷ fs) h =
      All-cons (λ (f : Fragment V). AreItems (listed_items f.items)) f fs
      (may_list (listed_items f.items) (All-head (λ (p : Part). IfSome p.items AreListable) (part_of has f) (map (part_of has) fs) h))
      (all_may_list fs (All-tail (λ (p : Part). IfSome p.items AreListable) (part_of has f) (map (part_of has) fs) h))

  -- a fragment with too many holes is a part with too many
  pub holey_part : (is_part : Part → Type 0) (fs : List (Fragment V)) → All is_part (map (part_of has) fs) → Any (IsTooHoley has) fs → HasHoleyPart is_part
  holey_part is_part fs each (k, f, within, at, holey) =
      (part_of has f, All-contains is_part (map (part_of has) fs) (part_of has f) each (Contains-map (part_of has) f fs (k, within, at)), holey)

-- ---- there is one list of pieces

columns_one : (set : Versions) (a b : List AuthorColumn) → IsVectorOf set a → IsVectorOf set b → a ≡ b
columns_one set a b h k = columns_unique set a b (record { vector = h.columns_ok; same = h.has }) (record { vector = k.columns_ok; same = k.has })

piece_one : (part : Part) (a b : Piece) → IsPieceOf part a → IsPieceOf part b → a ≡ b
piece_one part a b h k =
    let items : a.items ≡ b.items = h.items ∙ sym k.items in
    let vector : a.vector ≡ b.vector = columns_one part.versions a.vector b.vector h.versions k.versions in
    λ i. record { items = items i; vector = vector i }

pub pieces_one : (parts : List Part) (xs ys : List Piece) → AllZip IsPieceOf parts xs → AllZip IsPieceOf parts ys → xs ≡ ys
pieces_one [] [] [] h k = refl
pieces_one [] [] (y ∷ ys) h k = absurd k
pieces_one (p ∷ ps) (x ∷ xs) [] h k = absurd k
pieces_one (p ∷ ps) (x ∷ xs) (y ∷ ys) h k =
    let first : x ≡ y = piece_one p x y h.0 k.0 in
    let rest : xs ≡ ys = pieces_one ps xs ys h.1 k.1 in
    λ i. first i ∷ rest i
pieces_one ps xs ys h k = absurd h

module _ (is_part : Part → Type 0) where
  pub pieces_unique : (xs ys : List Piece) → ArePiecesOf is_part xs → ArePiecesOf is_part ys → xs ≡ ys
  pieces_unique xs ys h k =
      let parts : k.parts ≡ h.parts = parts_that-unique is_part k.parts h.parts k.are_parts h.are_parts in
      pieces_one h.parts xs ys h.by_part (subst (λ (ps : List Part). AllZip IsPieceOf ps ys) parts k.by_part)

  -- a part that has a piece has few holes
  few_in : (parts : List Part) (xs : List Piece) → AllZip IsPieceOf parts xs → All (λ p. ¬ HasTooManyHoles p.versions) parts
  few_in [] [] h = All-nil (λ (p : Part). ¬ HasTooManyHoles p.versions)
  few_in (p ∷ ps) (x ∷ xs) h =
      All-cons (λ (p : Part). ¬ HasTooManyHoles p.versions) p ps (few-vector x.vector p.versions h.0.versions.columns_ok h.0.versions.has) (few_in ps xs h.1)
  few_in ps xs h = absurd h

  pub no_holey : (xs : List Piece) → ArePiecesOf is_part xs → HasHoleyPart is_part → ⊥
  no_holey xs h holey =
      All-contains (λ (p : Part). ¬ HasTooManyHoles p.versions) h.parts holey.0 (few_in h.parts xs h.by_part) (h.are_parts.has_all holey.0 holey.1) holey.2
