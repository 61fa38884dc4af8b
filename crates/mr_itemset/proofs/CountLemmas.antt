use Rattle.std.proofs.Common.{ℕ, ◌≡◌, ◌≤◌, ◌+◌, ◌⊎◌, ◌||◌, not, Bool, true, false, List, [], ◌∷◌, length, All, Contains, refl, sym, ◌∙◌, arith, inl, inr}
use Rattle.mr_itemset.proofs.Names.{All-contains, AuthorColumn, Covers, Fits, IsNormal, IsVectorFrom, Lacks, Listed, Normal, cases_Bool, false≢true, filter}
use Rattle.mr_itemset.proofs.Names.{united, vector_eq, vector_eq-same, vector_has, vectors_of}
use Rattle.mr_itemset.specs.Folded.{folded}
use Rattle.mr_forms.specs.Sets.{both}
use Rattle.mr_itemset.specs.Folded.{gained}
use Rattle.mr_itemset.proofs.ColumnsLemmas.{united-vector, united-has}

pub folded_listed : (k : Normal) (added : List AuthorColumn) → length (gained added (united k.all added) k.listed) ≡ length (folded k added).listed
unfolding folded
folded_listed k added = refl

-- whether something is known still beyond what all then have
abbrev pub stays : List AuthorColumn → List AuthorColumn → List AuthorColumn → Bool
stays added all vector = not (vector_eq (united vector added) all)

-- the listed items of which that is so
pub gained_count : (added all : List AuthorColumn) (xs : List Listed) → length (filter (stays added all) (vectors_of xs)) ≡ length (gained added all xs)
gained_count added all [] = refl
gained_count added all (x ∷ xs) = grind (arith, gained_count added all xs, cases_Bool)

pub gained_few : (added all : List AuthorColumn) (xs : List Listed) → length (gained added all xs) ≤ length xs
gained_few added all [] = omega arith
gained_few added all (x ∷ xs) = go (cases_Bool (vector_eq (united x.vector added) all)) (gained_few added all xs)
  where
    go : (vector_eq (united x.vector added) all ≡ true) ⊎ (vector_eq (united x.vector added) all ≡ false) → length (gained added all xs) ≤ length xs → length (gained added all (x ∷ xs)) ≤ length (x ∷ xs)
    go (inl e) rest = rw e (omega arith)
    go (inr n) rest = rw n (omega arith)

-- it is so where the vector has something that all then lack
pub stays_yes : (added before vector : List AuthorColumn) → IsVectorFrom 0 added → IsVectorFrom 0 before → IsVectorFrom 0 vector → Fits before added → Fits vector added → Lacks (both (vector_has added) (vector_has before)) (vector_has vector) → stays added (united before added) vector ≡ true
stays_yes added before vector va vb vx fb fx lacks = go (cases_Bool (vector_eq (united vector added) (united before added)))
  where
    or_second : (a b : Bool) → b ≡ true → (a || b) ≡ true
    or_second true b e = refl
    or_second false b e = e

    go : (vector_eq (united vector added) (united before added) ≡ true) ⊎ (vector_eq (united vector added) (united before added) ≡ false) → stays added (united before added) vector ≡ true
    go (inr n) = rw n refl
    go (inl e) =
        let same = (vector_eq-same (united vector added) (united before added) (united-vector vector added vx va fx) (united-vector before added vb va fb)).0 e in
        absurd (false≢true (sym lacks.is_out ∙ sym (united-has before added vb va fb lacks.version) ∙ sym (same lacks.version) ∙ united-has vector added vx va fx lacks.version ∙ or_second (vector_has added lacks.version) (vector_has vector lacks.version) lacks.is_in))

-- and no longer where all then have all of it
pub stays_no : (added before vector : List AuthorColumn) → IsVectorFrom 0 added → IsVectorFrom 0 before → IsVectorFrom 0 vector → Fits before added → Fits vector added → Covers (vector_has vector) (vector_has before) → Covers (both (vector_has added) (vector_has before)) (vector_has vector) → stays added (united before added) vector ≡ false
stays_no added before vector va vb vx fb fx more covers = grind (arith, vector_eq-same, united-vector, united-has)

-- the vector of a listed item
abbrev IsListed : Normal → List AuthorColumn → Type 0
IsListed k vector = (x : Listed) × (Contains k.listed x × (x.vector ≡ vector))

-- one more of the vectors that are left
pub counted_one : {limit : ℕ} (k : Normal) (added vector : List AuthorColumn) (vectors rest : List (List AuthorColumn)) → IsNormal limit k → IsVectorFrom 0 added → Fits k.all added → All (λ x. Fits x.vector added) k.listed → IsListed k vector → vectors ≡ vector ∷ rest → Lacks (both (vector_has added) (vector_has k.all)) (vector_has vector) → length (filter (stays added (united k.all added)) vectors) ≡ length (filter (stays added (united k.all added)) rest) + 1
counted_one k added vector vectors rest normal va fits each listed next lacks = grind (arith, All-contains, stays_yes)

pub counted_none : {limit : ℕ} (k : Normal) (added vector : List AuthorColumn) (vectors rest : List (List AuthorColumn)) → IsNormal limit k → IsVectorFrom 0 added → Fits k.all added → All (λ x. Fits x.vector added) k.listed → IsListed k vector → vectors ≡ vector ∷ rest → Covers (both (vector_has added) (vector_has k.all)) (vector_has vector) → length (filter (stays added (united k.all added)) vectors) ≡ length (filter (stays added (united k.all added)) rest)
counted_none k added vector vectors rest normal va fits each listed next covers = grind (arith, All-contains, stays_no)
