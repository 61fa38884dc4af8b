-- fragments that are merged one after the other
use Rattle.std.proofs.Common.{◌≡◌, ◌&&◌, ◌||◌, IsErrOf, IfErr, Bool, false, not, refl, sym, ap, subst, ◌∙◌, List, [], ◌∷◌, map, Result, inl, inr, arith}
use Rattle.mr_replica.proofs.Names.{All, All-cons, All-head, All-nil, All-tail, AreSame, ConciseFragment, FirstFault, FirstFits, Fits, Form, FormFault}
use Rattle.mr_replica.proofs.Names.{HasValue, ItemSet, Name, Pairs, Piece, RefusesMerged, Rev, Session, Wanted, Wanted.Knowledge, all_covered, claimed}
use Rattle.mr_replica.proofs.Names.{covered, has_item, in_any, is_unheld, lists, merged_by, piece_of, refusal_of, vector_has, with_pairs}
use Rattle.mr_forms.specs.Merged.{after_each, FirstHasValue, AreOverHolesInTurn, AreOverItemsInTurn}
use Rattle.mr_forms.specs.declared.fault.FormFault.TheVariants as fault
use Rattle.mr_wire.specs.Values.{listed_items}
use Rattle.mr_store.specs.Unheld.{is_unheld as covers_unheld}

-- pairs that are the same are one
pub one_pairs : (s t : Pairs) → AreSame s t → s ≡ t
one_pairs s t h = λ i a b. h a b i

-- what a fragment covers is what it claims
pub lists_same : (items : ItemSet) (i : Name) → has_item items i ≡ lists (listed_items items) i
lists_same items i = grind arith

or_false : (b : Bool) → (b || false) ≡ b
or_false b = grind arith

pub covers_claimed : (f : ConciseFragment) (i v : Name) → covered vector_has f i v ≡ claimed (piece_of f ∷ []) i v
covers_claimed f i v = ap (λ b. b && vector_has f.vector v) (lists_same f.items i) ∙ sym (or_false (lists (listed_items f.items) i && vector_has f.vector v))

pub all_claimed : (fs : List ConciseFragment) (i v : Name) → all_covered vector_has fs i v ≡ claimed (map piece_of fs) i v
all_claimed [] i v = refl
all_claimed (f ∷ fs) i v = ap (λ b. (b && vector_has f.vector v) || all_covered vector_has fs i v) (lists_same f.items i) ∙ ap (λ b. (lists (listed_items f.items) i && vector_has f.vector v) || b) (all_claimed fs i v)

-- what the fragments claim, one after the other, is what is known after each of them
claimed_is : (f : ConciseFragment) → claimed (piece_of f ∷ []) ≡ covered vector_has f
claimed_is f = one_pairs (claimed (piece_of f ∷ [])) (covered vector_has f) (λ i v. sym (covers_claimed f i v))

pub merged_is : (known : Pairs) (fs : List ConciseFragment) → merged_by known (map piece_of fs) ≡ map Knowledge (after_each vector_has known fs)
merged_is known [] = refl
merged_is known (f ∷ fs) =
    ap (λ (claims : Pairs). Knowledge (with_pairs known claims) ∷ merged_by (with_pairs known claims) (map piece_of fs)) (claimed_is f)
    ∙ ap (λ (ws : List Wanted). Knowledge (with_pairs known (covered vector_has f)) ∷ ws) (merged_is (with_pairs known (covered vector_has f)) fs)

module _ {K : Type 0} (form : Form K) where
  -- all of them fit
  all_fit : (ps : List Pairs) → All (HasValue form) ps → All (Fits form) (map Knowledge ps)
  all_fit [] values = All-nil (Fits form)
  all_fit (p ∷ ps) values = All-cons (Fits form) (Knowledge p) (map Knowledge ps) (All-head (HasValue form) p ps values) (all_fit ps (All-tail (HasValue form) p ps values))

  pub merged_fits : (known : Pairs) (fs : List ConciseFragment) → All (HasValue form) (after_each vector_has known fs) → All (Fits form) (merged_by known (map piece_of fs))
  merged_fits known fs values = subst (All (Fits form)) (sym (merged_is known fs)) (all_fit (after_each vector_has known fs) values)

  -- or the first of them has a fault
  first_holey : (ps : List Pairs) → AreOverHolesInTurn form ps → FirstFault form (refusal_of fault.TooManyHoles) (map Knowledge ps)
  first_holey [] over = over
  first_holey (p ∷ ps) (inl over) = inl over
  first_holey (p ∷ ps) (inr rest) = inr (rest.0, first_holey ps rest.1)

  first_long : (ps : List Pairs) → AreOverItemsInTurn form ps → FirstFault form (refusal_of fault.TooManyItems) (map Knowledge ps)
  first_long [] over = over
  first_long (p ∷ ps) (inl over) = inl over
  first_long (p ∷ ps) (inr rest) = inr (rest.0, first_long ps rest.1)

  -- or no memory is there, and the first fits
  first_fits : (known : Pairs) (fs : List ConciseFragment) → FirstHasValue form (after_each vector_has known fs) → FirstFits form (merged_by known (map piece_of fs))
  first_fits known [] value = tt
  first_fits known (f ∷ fs) value = subst (λ (pairs : Pairs). Fits form (Knowledge (with_pairs known pairs))) (sym (claimed_is f)) value

  pub merged_refused : (known : Pairs) (fs : List ConciseFragment) (made : Result K FormFault) → (IsErrOf made fault.TooManyHoles → AreOverHolesInTurn form (after_each vector_has known fs)) →
      (IsErrOf made fault.TooManyItems → AreOverItemsInTurn form (after_each vector_has known fs)) → (IsErrOf made fault.OutOfMemory → FirstHasValue form (after_each vector_has known fs)) → IfErr made (RefusesMerged form (merged_by known (map piece_of fs)))
  merged_refused known fs made holes items memory = grind (arith, first_fits, merged_is, first_holey, first_long)

  -- where all fit, the first does
  pub first_of_all : (ws : List Wanted) → All (Fits form) ws → FirstFits form ws
  first_of_all [] fits = tt
  first_of_all (w ∷ ws) fits = All-head (Fits form) w ws fits

-- ---- what leaves at the End

-- what the fragments cover and no vector has is what the session says is unheld
pub unheld_same : (fs : List ConciseFragment) (session : Session) → map piece_of fs ≡ session.know → (λ (r : Rev). covers_unheld fs session.held r.item r.version) ≡ is_unheld session
unheld_same fs session is = λ i r. (ap (λ b. b && not (in_any vector_has session.held r.version)) (all_claimed fs r.item r.version ∙ ap (λ (ps : List Piece). claimed ps r.item r.version) is)) i
