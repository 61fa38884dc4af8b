use Rattle.std.proofs.Common.{ℕ, ◌≡◌, ◌≤◌, ◌+◌, ◌⊎◌, suc, Bool, true, false, ◌||◌, ◌&&◌, List, ◌∷◌, length, All, Contains, refl, ap, sym, ◌∙◌, subst, arith, inl, inr}
use Rattle.mr_itemset.proofs.Names.{All-cons, All-contains, All-contains_itself, All-map, All-weaker, AuthorColumn, Covers, Drops, HasHoleyItem, HasMore}
use Rattle.mr_itemset.proofs.Names.{HasRoomWith, HasTooManyHoles, IsDistinct-cons, IsNormal, IsSame, Lacks, Listed, Lists, ListsTooMany, Name, Normal, Pairs}
use Rattle.mr_itemset.proofs.Names.{Versions, cases_Bool, eq_by_cmp_equiv, false≢true, items_of, length-le_from_is_member, length-map, list_any, name_eq}
use Rattle.mr_itemset.proofs.Names.{name_eq-itself, name_eq-symmetric, names_total, normal_known, or_cases, or_parts, vector_has, vector_of, with_below}
use Rattle.mr_forms.specs.Sets.{both}
use Rattle.mr_itemset.specs.ItemForm.{with_all}
use Rattle.mr_itemset.proofs.NormalLemmas.{same_name, top, free-above, vector_in-has, vector_in-unlisted}
use Rattle.mr_itemset.proofs.LimitLemmas.{any_all}
use Rattle.mr_itemset.proofs.ItemLemmas.{same_tests}
use Rattle.mr_itemset.proofs.RoomLemmas.{none_by_recursion, items_distinct, listed_contained, other_items}

-- what is known once all items have the learned versions, and the item the set
abbrev pub grown_with : Normal → Versions → Name → Versions → Pairs
grown_with k learned item set = with_below (with_all (normal_known k) learned) item set

or_right : (a b : Bool) → b ≡ true → (a || b) ≡ true
or_right true b e = refl
or_right false b e = e

-- ---- holes

pub holey_with : (k : Normal) (learned set : Versions) (item : Name) → HasTooManyHoles (both set (both learned (vector_has (vector_of k item)))) → HasHoleyItem (grown_with k learned item set)
holey_with k learned set item many = record {
  item = item;
  holes = subst HasTooManyHoles (same_tests (both set (both learned (vector_has (vector_of k item)))) (grown_with k learned item set item) (λ v. ap (λ (b : Bool). (b && set v) || (learned v || normal_known k item v)) (sym (name_eq-itself item)))) many;
}

-- too many holes of another item come from the learned versions
pub holey_learned : (k : Normal) (learned set : Versions) (item : Name) → (HasTooManyHoles (both set (both learned (vector_has (vector_of k item)))) → ⊥) → HasHoleyItem (grown_with k learned item set) → HasHoleyItem (with_all (normal_known k) learned)
holey_learned k learned set item few holey = go (cases_Bool (name_eq item holey.item))
  where
    go : (name_eq item holey.item ≡ true) ⊎ (name_eq item holey.item ≡ false) → HasHoleyItem (with_all (normal_known k) learned)
    go (inl here) = absurd (few (subst HasTooManyHoles (same_tests (grown_with k learned item set holey.item) (both set (both learned (vector_has (vector_of k item))))
        (λ v. ap (λ (b : Bool). (b && set v) || (learned v || normal_known k holey.item v)) here ∙ ap (λ (j : Name). set v || (learned v || normal_known k j v)) (sym (same_name item holey.item here)))) holey.holes))
    go (inr other) = record {
      item = holey.item;
      holes = subst HasTooManyHoles (same_tests (grown_with k learned item set holey.item) (with_all (normal_known k) learned holey.item)
          (λ v. ap (λ (b : Bool). (b && set v) || (learned v || normal_known k holey.item v)) other)) holey.holes;
    }

-- ---- too many items

pub lists_too_many-with : {limit : ℕ} (k : Normal) (learned set : Versions) (item : Name) → IsNormal limit k → limit ≤ length k.listed → list_any (name_eq item) (items_of k.listed) ≡ false → Lacks (both learned (vector_has k.all)) set → All (λ x. ¬ Covers (both learned (vector_has k.all)) (vector_has x.vector)) k.listed → ListsTooMany limit (grown_with k learned item set)
lists_too_many-with k learned set item normal full free lacks each = record {
  all = both learned (vector_has k.all);
  items = item ∷ items_of k.listed;
  distinct = IsDistinct-cons name_eq item (items_of k.listed) (none_by_recursion item (items_of k.listed) free) (items_distinct k.listed normal.rising);
  more = All-cons (λ i. ¬ IsSame (grown_with k learned item set i) (both learned (vector_has k.all))) item (items_of k.listed)
      (λ same. false≢true (sym lacks.is_out ∙ sym (same lacks.version) ∙ here lacks.version lacks.is_in))
      (All-map (λ i. ¬ IsSame (grown_with k learned item set i) (both learned (vector_has k.all))) (λ x. x.item) k.listed
      (All-weaker (Contains k.listed) (λ x. ¬ IsSame (grown_with k learned item set x.item) (both learned (vector_has k.all))) theirs k.listed (All-contains_itself k.listed)));
  rest = λ i none v.
      let parts = or_parts (name_eq i item) (list_any (name_eq i) (items_of k.listed)) none in
      ap (λ (b : Bool). (b && set v) || (learned v || normal_known k i v)) (name_eq-symmetric item i ∙ parts.0) ∙ ap (λ (c : List AuthorColumn). learned v || vector_has c v) (vector_in-unlisted k.all k.listed i parts.1);
  many = let same : length (items_of k.listed) ≡ length k.listed = length-map k.listed (λ x. x.item) in omega arith;
}
  where
    here : (v : Name) → set v ≡ true → grown_with k learned item set item v ≡ true
    here v is_in = rw (name_eq-itself item, is_in) refl

    theirs : (x : Listed) → Contains k.listed x → ¬ IsSame (grown_with k learned item set x.item) (both learned (vector_has k.all))
    theirs x has same =
        All-contains (λ y. ¬ Covers (both learned (vector_has k.all)) (vector_has y.vector)) k.listed x each has
        (λ v is_in. sym (same v)
        ∙ or_right (name_eq item x.item && set v) (learned v || normal_known k x.item v)
        (or_right (learned v) (normal_known k x.item v) (ap (λ (c : List AuthorColumn). vector_has c v) (vector_in-has k.all k.listed x normal.rising has) ∙ is_in)))

-- ---- with room, no more than may be listed

-- all but some items have what all had, with the learned versions
all_with : {limit : ℕ} (k : Normal) (learned set : Versions) (item : Name) (many : ListsTooMany limit (grown_with k learned item set)) (v : Name) → both learned (vector_has k.all) v ≡ many.all v
all_with k learned set item many v =
    sym (ap (λ (b : Bool). (b && set v) || (learned v || normal_known k (record { author = 0; counter = suc (top many.items + (item.counter + top (items_of k.listed))) }) v)) other
    ∙ ap (λ (c : List AuthorColumn). learned v || vector_has c v) (vector_in-unlisted k.all k.listed (record { author = 0; counter = suc (top many.items + (item.counter + top (items_of k.listed))) }) (free-above (suc (top many.items + (item.counter + top (items_of k.listed)))) (items_of k.listed) (omega arith))))
    ∙ many.rest (record { author = 0; counter = suc (top many.items + (item.counter + top (items_of k.listed))) }) (free-above (suc (top many.items + (item.counter + top (items_of k.listed)))) many.items (omega arith)) v
  where
    other : name_eq item (record { author = 0; counter = suc (top many.items + (item.counter + top (items_of k.listed))) }) ≡ false
    other = decide (cases_Bool (name_eq item (record { author = 0; counter = suc (top many.items + (item.counter + top (items_of k.listed))) })))
      where
        decide : (name_eq item (record { author = 0; counter = suc (top many.items + (item.counter + top (items_of k.listed))) }) ≡ true) ⊎ (name_eq item (record { author = 0; counter = suc (top many.items + (item.counter + top (items_of k.listed))) }) ≡ false) → name_eq item (record { author = 0; counter = suc (top many.items + (item.counter + top (items_of k.listed))) }) ≡ false
        decide (inl same) = let e : item.counter ≡ suc (top many.items + (item.counter + top (items_of k.listed))) = ap (λ (z : Name). z.counter) (same_name item (record { author = 0; counter = suc (top many.items + (item.counter + top (items_of k.listed))) }) same) in absurd (omega arith)
        decide (inr apart) = apart

-- what has just that is none of the many
not_many : {limit : ℕ} (k : Normal) (learned set : Versions) (item : Name) (many : ListsTooMany limit (grown_with k learned item set)) (q : Name) → IsSame (grown_with k learned item set q) (both learned (vector_has k.all)) → list_any (name_eq q) many.items ≡ false
not_many k learned set item many q same = go (cases_Bool (list_any (name_eq q) many.items))
  where
    go : (list_any (name_eq q) many.items ≡ true) ⊎ (list_any (name_eq q) many.items ≡ false) → list_any (name_eq q) many.items ≡ false
    go (inl any) = absurd (any_all (λ i. ¬ IsSame (grown_with k learned item set i) many.all) many.items q many.more any (λ v. same v ∙ all_with k learned set item many v))
    go (inr none) = none

-- another item that is not listed has just that
unlisted_same : (k : Normal) (learned set : Versions) (item q : Name) → name_eq item q ≡ false → list_any (name_eq q) (items_of k.listed) ≡ false → IsSame (grown_with k learned item set q) (both learned (vector_has k.all))
unlisted_same k learned set item q other free v = grind (arith, vector_in-unlisted)

-- the many are listed, or the item
listed_or_item : {limit : ℕ} (k : Normal) (learned set : Versions) (item : Name) (many : ListsTooMany limit (grown_with k learned item set)) (q : Name) → list_any (name_eq q) many.items ≡ true → list_any (name_eq q) (item ∷ items_of k.listed) ≡ true
listed_or_item k learned set item many q any = go (cases_Bool (name_eq q item)) (cases_Bool (list_any (name_eq q) (items_of k.listed)))
  where
    go : (name_eq q item ≡ true) ⊎ (name_eq q item ≡ false) → (list_any (name_eq q) (items_of k.listed) ≡ true) ⊎ (list_any (name_eq q) (items_of k.listed) ≡ false) → list_any (name_eq q) (item ∷ items_of k.listed) ≡ true
    go (inl here) rest = rw here refl
    go (inr other) (inl listed) = or_right (name_eq q item) (list_any (name_eq q) (items_of k.listed)) listed
    go (inr other) (inr free) = absurd (false≢true (sym (not_many k learned set item many q (unlisted_same k learned set item q (name_eq-symmetric item q ∙ other) free)) ∙ any))

-- where the item is listed or has just that, the many are listed
listed_alone : {limit : ℕ} (k : Normal) (learned set : Versions) (item : Name) (many : ListsTooMany limit (grown_with k learned item set)) → Lists k item ⊎ (list_any (name_eq item) many.items ≡ false) → (q : Name) → list_any (name_eq q) many.items ≡ true → list_any (name_eq q) (items_of k.listed) ≡ true
listed_alone k learned set item many known q any = go (or_cases (name_eq q item) (list_any (name_eq q) (items_of k.listed)) (listed_or_item k learned set item many q any)) known
  where
    go : (name_eq q item ≡ true) ⊎ (list_any (name_eq q) (items_of k.listed) ≡ true) → Lists k item ⊎ (list_any (name_eq item) many.items ≡ false) → list_any (name_eq q) (items_of k.listed) ≡ true
    go (inr listed) known = listed
    go (inl here) (inl lists) = ap (λ (z : Name). list_any (name_eq z) (items_of k.listed)) (same_name q item here) ∙ lists
    go (inl here) (inr none) = absurd (false≢true (sym none ∙ ap (λ (z : Name). list_any (name_eq z) many.items) (sym (same_name q item here)) ∙ any))

covered_same : (l x a : Bool) → (x ≡ true → (l || a) ≡ true) → (a ≡ true → x ≡ true) → (l || x) ≡ (l || a)
covered_same l x a up down = grind arith

nothing_new : (s a : Bool) → (s ≡ true → a ≡ true) → (s || a) ≡ a
nothing_new true a h = sym (h refl)
nothing_new false a h = refl

-- WITH ROOM for the item there are not too many
pub lists_few-with : {limit : ℕ} (k : Normal) (learned set : Versions) (item : Name) → IsNormal limit k → HasRoomWith limit k learned item set → ListsTooMany limit (grown_with k learned item set) → ⊥
lists_few-with k learned set item normal (inl room) many =
    let fits = length-le_from_is_member (eq_by_cmp_equiv names_total) many.items (item ∷ items_of k.listed) many.distinct (listed_or_item k learned set item many) in
    let same : length (items_of k.listed) ≡ length k.listed = length-map k.listed (λ x. x.item) in
    let over = many.many in
    omega arith
lists_few-with k learned set item normal (inr rest) many = go (cases_Bool (list_any (name_eq item) (items_of k.listed))) rest
  where
    none_more : Lists k item ⊎ (list_any (name_eq item) many.items ≡ false) → ⊥
    none_more known =
        let fits = length-le_from_is_member (eq_by_cmp_equiv names_total) many.items (items_of k.listed) many.distinct (listed_alone k learned set item many known) in
        let same : length (items_of k.listed) ≡ length k.listed = length-map k.listed (λ x. x.item) in
        let over = many.many in
        let few = normal.few in
        omega arith

    all_covers : list_any (name_eq item) (items_of k.listed) ≡ false → Covers (both learned (vector_has k.all)) set → IsSame (grown_with k learned item set item) (both learned (vector_has k.all))
    all_covers free covers v =
        ap (λ (b : Bool). (b && set v) || (learned v || normal_known k item v)) (name_eq-itself item)
        ∙ ap (λ (c : List AuthorColumn). set v || (learned v || vector_has c v)) (vector_in-unlisted k.all k.listed item free)
        ∙ nothing_new (set v) (learned v || vector_has k.all v) (covers v)

    -- the dropped item beside the many: together they are no more than the item and those listed
    one_dropped : list_any (name_eq item) (items_of k.listed) ≡ false → Drops learned k → ⊥
    one_dropped free drops =
        let fits = length-le_from_is_member (eq_by_cmp_equiv names_total) (drops.dropped.item ∷ many.items) (item ∷ items_of k.listed)
        (IsDistinct-cons name_eq drops.dropped.item many.items (none_by_recursion drops.dropped.item many.items (not_many k learned set item many drops.dropped.item gone)) many.distinct) members in
        let same : length (items_of k.listed) ≡ length k.listed = length-map k.listed (λ x. x.item) in
        let over = many.many in
        let few = normal.few in
        omega arith
      where
        gone : IsSame (grown_with k learned item set drops.dropped.item) (both learned (vector_has k.all))
        gone v =
            ap (λ (b : Bool). (b && set v) || (learned v || normal_known k drops.dropped.item v)) (other_items item k.listed drops.dropped free drops.is_in)
            ∙ ap (λ (c : List AuthorColumn). learned v || vector_has c v) (vector_in-has k.all k.listed drops.dropped normal.rising drops.is_in)
            ∙ covered_same (learned v) (vector_has drops.dropped.vector v) (vector_has k.all v) (drops.covers v) ((All-contains (HasMore k.all) k.listed drops.dropped normal.more drops.is_in).covers v)

        members : (q : Name) → list_any (name_eq q) (drops.dropped.item ∷ many.items) ≡ true → list_any (name_eq q) (item ∷ items_of k.listed) ≡ true
        members q any = pick (or_cases (name_eq q drops.dropped.item) (list_any (name_eq q) many.items) any)
          where
            pick : (name_eq q drops.dropped.item ≡ true) ⊎ (list_any (name_eq q) many.items ≡ true) → list_any (name_eq q) (item ∷ items_of k.listed) ≡ true
            pick (inl here) = or_right (name_eq q item) (list_any (name_eq q) (items_of k.listed))
                (ap (λ (z : Name). list_any (name_eq z) (items_of k.listed)) (same_name q drops.dropped.item here) ∙ listed_contained drops.dropped k.listed drops.is_in)
            pick (inr there) = listed_or_item k learned set item many q there

    go : (list_any (name_eq item) (items_of k.listed) ≡ true) ⊎ (list_any (name_eq item) (items_of k.listed) ≡ false) → Lists k item ⊎ (Covers (both learned (vector_has k.all)) set ⊎ Drops learned k) → ⊥
    go (inl listed) rest = none_more (inl listed)
    go (inr free) (inl lists) = none_more (inl lists)
    go (inr free) (inr (inl covers)) = none_more (inr (not_many k learned set item many item (all_covers free covers)))
    go (inr free) (inr (inr drops)) = one_dropped free drops

-- what lacks a version of a set doesn't cover it
pub lacks-not_covers : (s t : Versions) → Lacks s t → ¬ Covers s t
lacks-not_covers s t lacks covers = false≢true (sym lacks.is_out ∙ covers lacks.version lacks.is_in)

-- ---- with nothing learned

-- one more than may be listed
pub lists_too_many : {limit : ℕ} (k : Normal) (set : Versions) (item : Name) → IsNormal limit k → limit ≤ length k.listed → list_any (name_eq item) (items_of k.listed) ≡ false → Lacks (vector_has k.all) set → ListsTooMany limit (with_below (normal_known k) item set)
lists_too_many k set item normal full free lacks =
    lists_too_many-with k (λ _. false) set item normal full free lacks
    (All-weaker (HasMore k.all) (λ x. ¬ Covers (vector_has k.all) (vector_has x.vector)) (λ x more covers. more.more (λ v. same_both (vector_has x.vector v) (vector_has k.all v) (covers v) (more.covers v))) k.listed normal.more)
  where
    same_both : (x a : Bool) → (x ≡ true → a ≡ true) → (a ≡ true → x ≡ true) → x ≡ a
    same_both true a up down = sym (up refl)
    same_both false true up down = down refl
    same_both false false up down = refl
