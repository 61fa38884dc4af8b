-- What all items know, and whether an author's column of it has holes to spare, told by what is settled and what is pending.
use Rattle.std.proofs.Common.{◌≡◌, ◌<◌, ◌≤◌, ◌⊎◌, ◌||◌, ◌&&◌, ◌↔◌, Bool, true, false, ℕ, nat_lt, List, length, ap, sym, subst, ◌∙◌, arith, inl, inr}
use Rattle.mr_itemset.proofs.Names.{AreSame, AuthorColumn, Extent, HasAtLeastHoles, HasFewerHoles, IsColumnOf, IsColumnOf-unique, IsNormal, IsOverHolesInTurn}
use Rattle.mr_itemset.proofs.Names.{IsOverItemsInTurn, IsSame, IsSplit, Name, Normal, Pairs, Versions, cases_Bool, column_of, column_of-IsColumn, goes_to_all}
use Rattle.mr_itemset.proofs.Names.{holes_for_all, le-ltb, learned_of, lt-ltb, name_eq, normal_known, of_author, sparing_form, spreads, vector_has}
use Rattle.mr_itemset.proofs.Names.{with_below}
use Rattle.mr_forms.specs.Sets.{both}
use Rattle.mr_itemset.specs.ItemForm.{with_all}
use Rattle.mr_itemset.proofs.FoldedLemmas.{same_pairs}
use Rattle.mr_itemset.proofs.HolesLemmas.{holes_counted}
use Rattle.mr_itemset.proofs.SplitLemmas.{split_all}

pub all_know_by : {limit : ℕ} (k settled : Normal) (pending : List AuthorColumn) (v : Name) → IsSplit limit k settled pending → (vector_has pending v || vector_has settled.all v) ≡ vector_has k.all v
all_know_by k settled pending v split = sym (split_all k settled pending split v)

-- the answer whether an author's column has holes to spare
pub spare_told : {limit : ℕ} (k settled : Normal) (pending : List AuthorColumn) (author spared : ℕ) (answer : Bool) → IsSplit limit k settled pending → (answer ≡ true → HasFewerHoles (of_author (both (vector_has pending) (vector_has settled.all)) author) spared) → (answer ≡ false → HasAtLeastHoles (of_author (both (vector_has pending) (vector_has settled.all)) author) spared) → answer ≡ nat_lt (length (column_of k.all author).holes) spared
spare_told k settled pending author spared answer split fewer least = go (cases_Bool answer)
  where
    is : IsColumnOf (of_author (both (vector_has pending) (vector_has settled.all)) author) (column_of k.all author)
    is =
        let ok = column_of-IsColumn 0 k.all author split.normal.all_ok in
        record { apart = ok.apart; in_range = ok.in_range; means = λ c. split_all k settled pending split (record { author = author; counter = c }) }

    go : (answer ≡ true) ⊎ (answer ≡ false) → answer ≡ nat_lt (length (column_of k.all author).holes) spared
    go (inl t) =
        let few = fewer t in
        let same = ap (λ (x : Extent). length x.holes) (IsColumnOf-unique (of_author (both (vector_has pending) (vector_has settled.all)) author) few.column (column_of k.all author) few.is is) in
        let less : length (column_of k.all author).holes < spared = let l = few.fewer in omega arith in
        t ∙ sym (lt-ltb (length (column_of k.all author).holes) spared less)
    go (inr f) =
        let holes : spared ≤ length (column_of k.all author).holes = least f (column_of k.all author) is in
        f ∙ sym (le-ltb (length (column_of k.all author).holes) spared holes)

-- the column's holes are those that its versions leave
pub holes_as_known : {limit : ℕ} (k : Normal) (author : ℕ) → IsNormal limit k → holes_for_all k author ≡ length (column_of k.all author).holes
holes_as_known k author normal = holes_counted (column_of k.all author) (column_of-IsColumn 0 k.all author normal.all_ok).apart

-- ---- what is learned, by what goes to all

after : (a b c : Bool) → (a || (b || c)) ≡ ((a || b) || c)
after a b c = grind arith

pub spread_all : (k : Normal) (item version : Name) (set first : Versions) → spreads k item version set ≡ true → IsSame first (λ v. (goes_to_all k item && set item) && name_eq item v) → learned_of sparing_form k item version set ≡ with_all (normal_known k) (both first (name_eq version))
spread_all k item version set first goes has = grind (arith, same_pairs, after)

-- what is told of the one is told of the other
module _ (item : Name) (set : Versions) {told learned : Pairs} (same : told ≡ learned) where
  pub known_told : {new : Pairs} → AreSame new (with_below learned item set) → AreSame new (with_below told item set)
  known_told {new = new} known = subst (λ (p : Pairs). AreSame new (with_below p item set)) (sym same) known

  pub holes_told : {P : Type 0} → P ↔ IsOverHolesInTurn sparing_form learned (with_below learned item set) → P ↔ IsOverHolesInTurn sparing_form told (with_below told item set)
  holes_told {P = P} by = subst (λ (p : Pairs). P ↔ IsOverHolesInTurn sparing_form p (with_below p item set)) (sym same) by

  pub items_told : {P : Type 0} → P ↔ IsOverItemsInTurn sparing_form learned (with_below learned item set) → P ↔ IsOverItemsInTurn sparing_form told (with_below told item set)
  items_told {P = P} by = subst (λ (p : Pairs). P ↔ IsOverItemsInTurn sparing_form p (with_below p item set)) (sym same) by
