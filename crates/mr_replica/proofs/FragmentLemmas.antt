-- concise fragments have what their fragments have, and those of the parts of a knowledge are one text
use Rattle.std.proofs.Common.{◌≡◌, ◌∙◌, ◌&&◌, ◌++◌, ℕ, flat_map, refl, sym, ap, subst, map, List, [], ◌∷◌, arith}
use Rattle.mr_replica.proofs.Names.{All, All-cons, All-contains, All-head, All-map, All-nil, All-tail, AllZip, AreFragmentsOf, ArePartsThat, ConciseFragment}
use Rattle.mr_replica.proofs.Names.{Fragment, HasHoleyPart, HasItems, HasTooManyHoles, HaveKnown, IsConciseOf, IsPieceOf, IsTooHoley, ItemSet, Name, Pairs}
use Rattle.mr_replica.proofs.Names.{Part, Versions, all_covered, covered, fragment_text, has_item, knowledge_text, listed_items, part_of, parts_that-unique}
use Rattle.mr_replica.proofs.Names.{piece_of, vector_has}
use Rattle.mr_concise.proofs.EqualLemmas.{vectors_same}
pub use Rattle.mr_replica.proofs.Kept.{holey_part}

module _ {V : Type 0} (has : V → Versions) where
  covered_alike : (f : Fragment V) (g : ConciseFragment) → IsConciseOf has f g → (i v : Name) → covered has f i v ≡ covered vector_has g i v
  covered_alike f g h i v = ap (λ (items : ItemSet). has_item items i && has f.vector v) (sym h.items) ∙ ap (λ b. has_item g.items i && b) (sym (h.vector.has v))

  all_alike : (fs : List (Fragment V)) (gs : List ConciseFragment) → AllZip (IsConciseOf has) fs gs → (i v : Name) → all_covered has fs i v ≡ all_covered vector_has gs i v
  all_alike [] [] h i v = refl
  all_alike (f ∷ fs) (g ∷ gs) h i v = rw (covered_alike f g h.0 i v, all_alike fs gs h.1 i v) refl
  all_alike fs gs h i v = absurd h

  items_alike : (fs : List (Fragment V)) (gs : List ConciseFragment) → AllZip (IsConciseOf has) fs gs → All (λ f. HasItems f.items) fs → All (λ g. HasItems g.items) gs
  items_alike [] [] h all = All-nil (λ (g : ConciseFragment). HasItems g.items)
  items_alike (f ∷ fs) (g ∷ gs) h all =
      All-cons (λ (g : ConciseFragment). HasItems g.items) g gs (subst HasItems (sym h.0.items) (All-head (λ (f : Fragment V). HasItems f.items) f fs all))
      (items_alike fs gs h.1 (All-tail (λ (f : Fragment V). HasItems f.items) f fs all))
  items_alike fs gs h all = absurd h

  pub concise_have : (known : Pairs) (fs : List (Fragment V)) (gs : List ConciseFragment) → HaveKnown has known fs → AllZip (IsConciseOf has) fs gs → HaveKnown vector_has known gs
  concise_have known fs gs h alike = grind (arith, all_alike, items_alike)

  -- the fragments of the parts that these are
  pub alike_parts : (fs : List (Fragment V)) (gs : List ConciseFragment) → AllZip (IsConciseOf has) fs gs → AllZip IsPieceOf (map (part_of has) fs) (map piece_of gs)
  alike_parts [] [] h = tt
  alike_parts (f ∷ fs) (g ∷ gs) h = (record { items = ap listed_items h.0.items; versions = h.0.vector }, alike_parts fs gs h.1)
  alike_parts fs gs h = absurd h

  -- where none is too holey, no part is
  pub no_holey_part : (is_part : Part → Type 0) (fs : List (Fragment V)) → ArePartsThat is_part (map (part_of has) fs) → All (λ f. ¬ IsTooHoley has f) fs → ¬ HasHoleyPart is_part
  no_holey_part is_part fs are few (p, is, holey) =
      All-contains (λ (q : Part). ¬ HasTooManyHoles q.versions) (map (part_of has) fs) p (All-map (λ (q : Part). ¬ HasTooManyHoles q.versions) (part_of has) fs few) (are.has_all p is) holey

-- ---- one text

-- fragments of one part have one text
fragment_text-once : (p : Part) (f g : ConciseFragment) → IsPieceOf p (piece_of f) → IsPieceOf p (piece_of g) → fragment_text f ≡ fragment_text g
fragment_text-once p f g a b = grind (arith, vectors_same)

-- what stands behind the first fragment of a text
abbrev behind : List ConciseFragment → List ℕ
behind fs = flat_map (λ f. (59 ∷ 32 ∷ []) ++ fragment_text f) fs

behind-once : (ps : List Part) (fs gs : List ConciseFragment) → AllZip IsPieceOf ps (map piece_of fs) → AllZip IsPieceOf ps (map piece_of gs) → behind fs ≡ behind gs
behind-once [] [] [] a b = refl
behind-once [] [] (g ∷ gs) a b = absurd b
behind-once (p ∷ ps) (f ∷ fs) [] a b = absurd b
behind-once (p ∷ ps) (f ∷ fs) (g ∷ gs) a b = rw (fragment_text-once p f g a.0 b.0, behind-once ps fs gs a.1 b.1) refl
behind-once ps fs gs a b = absurd a

text-once : (ps : List Part) (fs gs : List ConciseFragment) → AllZip IsPieceOf ps (map piece_of fs) → AllZip IsPieceOf ps (map piece_of gs) → knowledge_text fs ≡ knowledge_text gs
text-once ps fs gs a b = grind (arith, fragment_text-once, behind-once)

-- the fragments of the parts of a knowledge have one text
pub one_text : (is_part : Part → Type 0) (fs gs : List ConciseFragment) → AreFragmentsOf is_part fs → AreFragmentsOf is_part gs → knowledge_text fs ≡ knowledge_text gs
one_text is_part fs gs a b =
    let same : b.parts ≡ a.parts = parts_that-unique is_part b.parts a.parts b.are_parts a.are_parts in
    text-once a.parts fs gs a.by_part (subst (λ ps. AllZip IsPieceOf ps (map piece_of gs)) same b.by_part)
