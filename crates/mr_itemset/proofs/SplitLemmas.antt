use Rattle.std.proofs.Common.{ℕ, ◌≡◌, ◌+◌, ◌⊎◌, ◌||◌, suc, Bool, true, false, List, All, refl, ap, sym, ◌∙◌, arith, inl, inr, Contains}
use Rattle.mr_itemset.proofs.Names.{All-contains, All-contains_itself, All-weaker, AreSame, AuthorColumn, Covers, HasMore, IsKept, IsNormal, IsSame, IsSplit}
use Rattle.mr_itemset.proofs.Names.{Lacks, Listed, Name, Normal, Pairs, Versions, cases_Bool, false≢true, folded, items_of, list_any, name_eq, normal_known}
use Rattle.mr_itemset.proofs.Names.{not, vector_has, vector_in, vector_of}
use Rattle.mr_forms.specs.Sets.{both}
use Rattle.mr_itemset.specs.ItemForm.{with_all}
use Rattle.mr_itemset.proofs.NormalLemmas.{top, free-above, vector_in-unlisted, vector_in-has, vector_in-cases}
use Rattle.mr_itemset.proofs.ItemLemmas.{covers_all}
use Rattle.mr_itemset.proofs.EachLemmas.{listed_item}
use Rattle.mr_itemset.proofs.FoldedLemmas.{same_pairs, folded_normal, folded_pairs}

pub split_is : {limit : ℕ} (settled : Normal) (pending : List AuthorColumn) (most : _) → IsKept limit settled pending most → IsSplit limit (folded settled pending) settled pending
split_is settled pending most kept = record { normal = folded_normal settled pending most kept; settled_ok = kept.normal; known = folded_pairs settled pending most kept }

assoc : (a b c : Bool) → (a || (b || c)) ≡ ((a || b) || c)
assoc a b c = grind arith

-- what all items learn, and what is pending
pub all_twice : (known settled : Pairs) (pending set : Versions) → known ≡ with_all settled pending → with_all known set ≡ with_all settled (both set pending)
all_twice known settled pending set e = same_pairs (with_all known set) (with_all settled (both set pending)) (λ i v. ap (λ (k : Pairs). set v || k i v) e ∙ assoc (set v) (pending v) (settled i v))

-- what is known of an item
pub split_at : {limit : ℕ} (k settled : Normal) (pending : List AuthorColumn) (i v : Name) → IsSplit limit k settled pending → normal_known k i v ≡ (vector_has pending v || normal_known settled i v)
split_at k settled pending i v split = ap (λ (s : Pairs). s i v) split.known

-- what is known of all: some item is listed by neither
pub split_all : {limit : ℕ} (k settled : Normal) (pending : List AuthorColumn) → IsSplit limit k settled pending → IsSame (vector_has k.all) (both (vector_has pending) (vector_has settled.all))
split_all k settled pending split v =
    ap (λ (c : List AuthorColumn). vector_has c v) (sym (vector_in-unlisted k.all k.listed (record { author = 0; counter = suc (top (items_of k.listed) + top (items_of settled.listed)) }) (free-above (suc (top (items_of k.listed) + top (items_of settled.listed))) (items_of k.listed) (omega arith))))
    ∙ split_at k settled pending (record { author = 0; counter = suc (top (items_of k.listed) + top (items_of settled.listed)) }) v split
    ∙ ap (λ (c : List AuthorColumn). vector_has pending v || vector_has c v) (vector_in-unlisted settled.all settled.listed (record { author = 0; counter = suc (top (items_of k.listed) + top (items_of settled.listed)) }) (free-above (suc (top (items_of k.listed) + top (items_of settled.listed))) (items_of settled.listed) (omega arith)))

pub lacks_same : (s t set : Versions) → IsSame s t → Lacks t set → Lacks s set
lacks_same s t set same lacks = record { version = lacks.version; is_out = same lacks.version ∙ lacks.is_out; is_in = lacks.is_in }

pub covers_same : (s t set : Versions) → IsSame s t → Covers t set → Covers s set
covers_same s t set same covers v is_in = same v ∙ covers v is_in

-- ---- what one knowledge has of another

or_split : (a b : Bool) → (a || b) ≡ true → (a ≡ true) ⊎ (b ≡ true)
or_split a b e = grind arith

or_first : (a b : Bool) → a ≡ true → (a || b) ≡ true
or_first a b e = rw e refl

or_second : (a b : Bool) → b ≡ true → (a || b) ≡ true
or_second true b e = refl
or_second false b e = e

pub covers_yes : {limit : ℕ} (k other settled : Normal) (pending : List AuthorColumn) → IsNormal limit k → IsSplit limit other settled pending → Covers (vector_has k.all) (vector_has other.all) → All (λ x. Covers (normal_known k x.item) (vector_has x.vector)) settled.listed → (i : Name) → Covers (normal_known k i) (normal_known other i)
covers_yes k other settled pending normal split all listed i v is_in = go (or_split (vector_has pending v) (normal_known settled i v) (sym (split_at other settled pending i v split) ∙ is_in))
  where
    from_all : vector_has settled.all v ≡ true → normal_known k i v ≡ true
    from_all has = covers_all k i v normal (all v (split_all other settled pending split v ∙ or_second (vector_has pending v) (vector_has settled.all v) has))

    at : (vector_in settled.all settled.listed i ≡ settled.all) ⊎ ((x : Listed) × (Contains settled.listed x × ((x.item ≡ i) × (vector_in settled.all settled.listed i ≡ x.vector)))) → normal_known settled i v ≡ true → normal_known k i v ≡ true
    at (inl e) has = from_all (ap (λ (c : List AuthorColumn). vector_has c v) (sym e) ∙ has)
    at (inr x) has =
        ap (λ (j : Name). normal_known k j v) (sym x.1.1.0)
        ∙ All-contains (λ y. Covers (normal_known k y.item) (vector_has y.vector)) settled.listed x.0 listed x.1.0 v (ap (λ (c : List AuthorColumn). vector_has c v) (sym x.1.1.1) ∙ has)

    go : (vector_has pending v ≡ true) ⊎ (normal_known settled i v ≡ true) → normal_known k i v ≡ true
    go (inl has) = covers_all k i v normal (all v (split_all other settled pending split v ∙ or_first (vector_has pending v) (vector_has settled.all v) has))
    go (inr has) = at (vector_in-cases settled.all settled.listed i) has

pub covers_all-from : (k other : Normal) → ((i : Name) → Covers (normal_known k i) (normal_known other i)) → Covers (vector_has k.all) (vector_has other.all)
covers_all-from k other covers v is_in =
    ap (λ (c : List AuthorColumn). vector_has c v) (sym (vector_in-unlisted k.all k.listed (record { author = 0; counter = suc (top (items_of k.listed) + top (items_of other.listed)) }) (free-above (suc (top (items_of k.listed) + top (items_of other.listed))) (items_of k.listed) (omega arith))))
    ∙ covers (record { author = 0; counter = suc (top (items_of k.listed) + top (items_of other.listed)) }) v
    (ap (λ (c : List AuthorColumn). vector_has c v) (vector_in-unlisted other.all other.listed (record { author = 0; counter = suc (top (items_of k.listed) + top (items_of other.listed)) }) (free-above (suc (top (items_of k.listed) + top (items_of other.listed))) (items_of other.listed) (omega arith))) ∙ is_in)

pub covers_listed-from : {limit : ℕ} (k other settled : Normal) (pending : List AuthorColumn) → IsSplit limit other settled pending → ((i : Name) → Covers (normal_known k i) (normal_known other i)) → All (λ x. Covers (normal_known k x.item) (vector_has x.vector)) settled.listed
covers_listed-from k other settled pending split covers =
    All-weaker (Contains settled.listed) (λ x. Covers (normal_known k x.item) (vector_has x.vector))
    (λ x has v is_in. covers x.item v (split_at other settled pending x.item v split
    ∙ or_second (vector_has pending v) (normal_known settled x.item v) (ap (λ (c : List AuthorColumn). vector_has c v) (vector_in-has settled.all settled.listed x split.settled_ok.rising has) ∙ is_in)))
    settled.listed (All-contains_itself settled.listed)

-- the same is known where each has what the other has
pub same_from_covers : (k other : Normal) → ((i : Name) → Covers (normal_known k i) (normal_known other i)) → ((i : Name) → Covers (normal_known other i) (normal_known k i)) → AreSame (normal_known k) (normal_known other)
same_from_covers k other there back i v = grind arith

pub covers_from_same : (k other : Normal) → AreSame (normal_known k) (normal_known other) → (i : Name) → Covers (normal_known k i) (normal_known other i)
covers_from_same k other same i v is_in = same i v ∙ is_in

-- ---- which items are listed

pub listed_yes : {limit : ℕ} (k settled : Normal) (pending : List AuthorColumn) (item : Name) → IsSplit limit k settled pending → Lacks (both (vector_has pending) (vector_has settled.all)) (vector_has (vector_of settled item)) → list_any (name_eq item) (items_of k.listed) ≡ true
listed_yes k settled pending item split lacks = go (cases_Bool (list_any (name_eq item) (items_of k.listed)))
  where
    go : (list_any (name_eq item) (items_of k.listed) ≡ true) ⊎ (list_any (name_eq item) (items_of k.listed) ≡ false) → list_any (name_eq item) (items_of k.listed) ≡ true
    go (inl listed) = listed
    go (inr free) = absurd (false≢true (sym lacks.is_out ∙ sym (split_all k settled pending split lacks.version)
        ∙ ap (λ (c : List AuthorColumn). vector_has c lacks.version) (sym (vector_in-unlisted k.all k.listed item free))
        ∙ split_at k settled pending item lacks.version split ∙ or_second (vector_has pending lacks.version) (normal_known settled item lacks.version) lacks.is_in))

pub listed_no : {limit : ℕ} (k settled : Normal) (pending : List AuthorColumn) (item : Name) → IsSplit limit k settled pending → Covers (both (vector_has pending) (vector_has settled.all)) (vector_has (vector_of settled item)) → list_any (name_eq item) (items_of k.listed) ≡ false
listed_no k settled pending item split covers = go (cases_Bool (list_any (name_eq item) (items_of k.listed)))
  where
    within : (a p x : Bool) → (x ≡ true → (p || a) ≡ true) → (a ≡ true → x ≡ true) → (p || x) ≡ (p || a)
    within a true x up down = refl
    within a false true up down = sym (up refl)
    within true false false up down = down refl
    within false false false up down = refl

    go : (list_any (name_eq item) (items_of k.listed) ≡ true) ⊎ (list_any (name_eq item) (items_of k.listed) ≡ false) → list_any (name_eq item) (items_of k.listed) ≡ false
    go (inr free) = free
    go (inl listed) =
        let found = listed_item item k.listed listed in
        let more = All-contains (HasMore k.all) k.listed found.0 split.normal.more found.1.0 in
        absurd (more.more (λ v. ap (λ (c : List AuthorColumn). vector_has c v) (sym (vector_in-has k.all k.listed found.0 split.normal.rising found.1.0))
        ∙ ap (λ (j : Name). normal_known k j v) (sym found.1.1) ∙ split_at k settled pending item v split
        ∙ within (vector_has settled.all v) (vector_has pending v) (normal_known settled item v) (covers v) (covers_all settled item v split.settled_ok)
        ∙ sym (split_all k settled pending split v)))

-- ---- what one has of the other for all items

pub flipped : (a b : Bool) → not a ≡ b → a ≡ not b
flipped a b e = grind arith

pub covers_split : {limit : ℕ} (k other settled : Normal) (pending : List AuthorColumn) → IsSplit limit other settled pending → Covers (vector_has k.all) (vector_has pending) → Covers (vector_has k.all) (vector_has settled.all) → Covers (vector_has k.all) (vector_has other.all)
covers_split k other settled pending split mine all v is_in = go (or_split (vector_has pending v) (vector_has settled.all v) (sym (split_all other settled pending split v) ∙ is_in))
  where
    go : (vector_has pending v ≡ true) ⊎ (vector_has settled.all v ≡ true) → vector_has k.all v ≡ true
    go (inl has) = mine v has
    go (inr has) = all v has

pub lacks_split-pending : {limit : ℕ} (k other settled : Normal) (pending : List AuthorColumn) → IsSplit limit other settled pending → Lacks (vector_has k.all) (vector_has pending) → Lacks (vector_has k.all) (vector_has other.all)
lacks_split-pending k other settled pending split lacks = record { version = lacks.version; is_out = lacks.is_out; is_in = split_all other settled pending split lacks.version ∙ or_first (vector_has pending lacks.version) (vector_has settled.all lacks.version) lacks.is_in }

pub lacks_split-settled : {limit : ℕ} (k other settled : Normal) (pending : List AuthorColumn) → IsSplit limit other settled pending → Lacks (vector_has k.all) (vector_has settled.all) → Lacks (vector_has k.all) (vector_has other.all)
lacks_split-settled k other settled pending split lacks = record { version = lacks.version; is_out = lacks.is_out; is_in = split_all other settled pending split lacks.version ∙ or_second (vector_has pending lacks.version) (vector_has settled.all lacks.version) lacks.is_in }
