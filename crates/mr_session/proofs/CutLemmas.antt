-- A list of versions is cut in one way.
use Rattle.std.proofs.Common.{◌≡◌, ◌<◌, ℕ, suc, List, [], ◌∷◌, ◌++◌, length, take, refl, sym, ap, subst, ◌∙◌, inl, inr, arith}
use Rattle.mr_session.proofs.Names.{AreCut, AuthorColumn, FitOneByOne, HasJust, HasTooManyHoles, IsAsLongAsCanBe, Name, cases_lt, is_listed}
use Rattle.mr_concise.proofs.EqualLemmas.{vectors_same}

-- ---- two ways to part a list

abbrev head_of : List Name → Name → Name
head_of [] v = v
head_of (x ∷ xs) v = x

abbrev tail_of : List Name → List Name
tail_of [] = []
tail_of (x ∷ xs) = xs

-- the shorter front and what follows it begin the longer one
beginning : (f g : List Name) (v w : Name) (b c : List Name) → f ++ v ∷ b ≡ g ++ w ∷ c → length f < length g → take (suc (length f)) g ≡ f ++ v ∷ []
beginning [] [] v w b c same less = absurd (omega arith)
beginning [] (y ∷ g) v w b c same less = ap (λ (x : Name). x ∷ []) (sym (ap (λ (l : List Name). head_of l v) same))
beginning (x ∷ f) [] v w b c same less = absurd (omega arith)
beginning (x ∷ f) (y ∷ g) v w b c same less = grind (arith, beginning f g v w b c)

-- fronts of one length are one, and so is what follows
same_front : (f g : List Name) (v w : Name) (b c : List Name) → f ++ v ∷ b ≡ g ++ w ∷ c → length f ≡ length g → (f ≡ g) × ((v ∷ b) ≡ (w ∷ c))
same_front [] [] v w b c same len = (refl, same)
same_front [] (y ∷ g) v w b c same len = absurd (omega arith)
same_front (x ∷ f) [] v w b c same len = absurd (omega arith)
same_front (x ∷ f) (y ∷ g) v w b c same len = grind (arith, same_front f g v w b c)

-- the whole is longer than a front, which it begins with
whole_begins : (whole f : List Name) (v : Name) (b : List Name) → whole ≡ f ++ v ∷ b → take (suc (length f)) whole ≡ f ++ v ∷ []
whole_begins whole f v b is = ap (λ (l : List Name). take (suc (length f)) l) is ∙ begins f
  where
    begins : (f : List Name) → take (suc (length f)) (f ++ v ∷ b) ≡ f ++ v ∷ []
    begins [] = refl
    begins (x ∷ f) = ap (λ (l : List Name). x ∷ l) (begins f)

-- ---- no front of a cut is another one

-- what one vector can be given is not cut at a place where it would be full
not_cut_within : (whole front : List Name) (next : Name) (n : ℕ) → FitOneByOne whole → take n whole ≡ front ++ next ∷ [] → IsAsLongAsCanBe front next → ⊥
not_cut_within whole front next n fit is full = fit n (subst (λ (l : List Name). HasTooManyHoles (is_listed l)) (sym is) full)

same_length : (f g : List Name) (v w : Name) (b c : List Name) → f ++ v ∷ b ≡ g ++ w ∷ c → FitOneByOne f → FitOneByOne g → IsAsLongAsCanBe f v → IsAsLongAsCanBe g w → length f ≡ length g
same_length f g v w b c same fit_f fit_g full_f full_g =
    elim (cases_lt (length f) (length g)) [
      | inl less ↦ absurd (not_cut_within g f v (suc (length f)) fit_g (beginning f g v w b c same less) full_f)
      | inr from ↦ elim (cases_lt (length g) (length f)) [
        | inl less ↦ absurd (not_cut_within f g w (suc (length g)) fit_f (beginning g f w v c b (sym same) less) full_g)
        | inr to ↦ omega arith
      ]
    ]

-- ---- there is one cut

vector_one : (versions : List Name) (a b : List AuthorColumn) → HasJust versions a → HasJust versions b → a ≡ b
vector_one versions a b h k = grind (arith, vectors_same)

pub cut_unique : (versions : List Name) (xs ys : List (List AuthorColumn)) → AreCut versions xs → AreCut versions ys → xs ≡ ys
cut_unique versions [] ys h k = absurd h
cut_unique versions (x ∷ xs) [] h k = absurd k
cut_unique versions (x ∷ []) (y ∷ []) h k = ap (λ (v : List AuthorColumn). v ∷ []) (vector_one versions x y h k)
cut_unique versions (x ∷ []) (y ∷ y2 ∷ ys) h (front, next, back, is, has, full, rest) =
    absurd (not_cut_within versions front next (suc (length front)) h.one_by_one (whole_begins versions front next back is) full)
cut_unique versions (x ∷ x2 ∷ xs) (y ∷ []) (front, next, back, is, has, full, rest) k =
    absurd (not_cut_within versions front next (suc (length front)) k.one_by_one (whole_begins versions front next back is) full)
cut_unique versions (x ∷ x2 ∷ xs) (y ∷ y2 ∷ ys) (f, v, b, is, has, full, rest) (g, w, c, is_too, has_too, full_too, rest_too) =
    let whole : f ++ v ∷ b ≡ g ++ w ∷ c = sym is ∙ is_too in
    let parts = same_front f g v w b c whole (same_length f g v w b c whole has.one_by_one has_too.one_by_one full full_too) in
    let first : x ≡ y = vector_one f x y has (subst (λ (l : List Name). HasJust l y) (sym parts.0) has_too) in
    let others : (x2 ∷ xs) ≡ (y2 ∷ ys) = cut_unique (v ∷ b) (x2 ∷ xs) (y2 ∷ ys) rest (subst (λ (l : List Name). AreCut l (y2 ∷ ys)) (sym parts.1) rest_too) in
    λ i. first i ∷ others i
