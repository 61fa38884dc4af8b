use Rattle.std.proofs.Common.{◌≡◌, ◌<◌, ◌⊎◌, ℕ, zero, suc, Bool, true, false, ◌||◌, List, [], ◌∷◌, ◌++◌, length, get_or, All, Contains, refl, ap, sym, ◌∙◌, arith, inl, inr}
use Rattle.mr_itemset.proofs.Names.{All-contains, All-push, AreSame, AuthorColumn, Contains-append_left, Contains-push, Contains-push_cases, Covers}
use Rattle.mr_itemset.proofs.Names.{GainsListed, HasGained, HasMore, IsBefore, IsGrown, IsNormal, IsSame, IsVectorFrom, Lacks, Listed, Name, Normal, Versions}
use Rattle.mr_itemset.proofs.Names.{false≢true, length-append, normal_known, vector_has, vector_in}
use Rattle.std.proofs.lemmas.Bool.{or_right}
use Rattle.std.proofs.lemmas.List.Quantifiers.{all_pairs_push}
use Rattle.mr_forms.specs.Sets.{both}
use Rattle.mr_itemset.specs.ItemForm.{with_all}
use Rattle.mr_itemset.proofs.NormalLemmas.{vector_in-has, vector_in-cases}

-- an item is put at the end with its grown vector
pub gains_pushed : (set : Versions) (all : List AuthorColumn) (x : Listed) (old : List Listed) (vector : List AuthorColumn) → All (λ y. IsBefore y x) old → IsVectorFrom 0 vector → IsSame (vector_has vector) (both set (vector_has x.vector)) → ((v : Name) → vector_has all v ≡ true → both set (vector_has x.vector) v ≡ true) → (IsSame (vector_has vector) (vector_has all) → ⊥) → GainsListed set all x old (old ++ (record { item = x.item; vector = vector }) ∷ [])
gains_pushed set all x old vector before vector_ok has covers more = record {
  rising = λ rising. all_pairs_push IsBefore old (record { item = x.item; vector = vector }) rising (λ k d within. before k d within);
  more = λ each. All-push (HasMore all) old (record { item = x.item; vector = vector }) each (record { vector_ok = vector_ok; covers = λ v there. has v ∙ covers v there; more = more });
  few = simp length-append (omega arith);
  items = λ y there. cases y (Contains-push_cases old (record { item = x.item; vector = vector }) y there);
  stays = λ y there. Contains-append_left old ((record { item = x.item; vector = vector }) ∷ []) y there;
  gains = inl (record { item = x.item; vector = vector }, (Contains-push old (record { item = x.item; vector = vector }), record { item = refl; vector = has }));
}
  where
    cases : (y : Listed) → Contains old y ⊎ (record { item = x.item; vector = vector } ≡ y) → Contains old y ⊎ HasGained set x y
    cases y (inl there) = inl there
    cases y (inr e) = inr (record { item = ap (λ (z : Listed). z.item) (sym e); vector = λ v. ap (λ (z : Listed). vector_has z.vector v) (sym e) ∙ has v })

-- where all items have what is added and what the item has, it is not listed
pub gains_nothing : (set : Versions) (all : List AuthorColumn) (x : Listed) (old : List Listed) → Covers (vector_has all) set → Covers (vector_has all) (vector_has x.vector) → ((v : Name) → vector_has all v ≡ true → both set (vector_has x.vector) v ≡ true) → GainsListed set all x old old
gains_nothing set all x old added mine covers = grind arith

-- what all items have and the item has is what is added and the item has
pub united_gained : (set : Versions) (all vector : List AuthorColumn) (x : Listed) → Covers (vector_has all) set → ((v : Name) → vector_has all v ≡ true → both set (vector_has x.vector) v ≡ true) → IsSame (vector_has vector) (both (vector_has all) (vector_has x.vector)) → IsSame (vector_has vector) (both set (vector_has x.vector))
united_gained set all vector x added covers has v = has v ∙ same (vector_has all v) (set v) (vector_has x.vector v) (covers v) (added v)
  where
    same : (a s y : Bool) → (a ≡ true → (s || y) ≡ true) → (s ≡ true → a ≡ true) → (a || y) ≡ (s || y)
    same true s y has from_set = sym (has refl)
    same false true y has from_set = absurd (false≢true (from_set refl))
    same false false y has from_set = refl

-- what all items lack of an item they lack of it with the set too
pub lacks_grown : (set : Versions) (all vector : List AuthorColumn) (x : Listed) → Lacks (vector_has all) (vector_has x.vector) → IsSame (vector_has vector) (both set (vector_has x.vector)) → IsSame (vector_has vector) (vector_has all) → ⊥
lacks_grown set all vector x lacks has same = grind (arith, false≢true, or_right)

-- one item more has grown
pub grown_more : (set : Versions) (all : List AuthorColumn) (old new next : List Listed) (x : Listed) → IsGrown set all old new → GainsListed set all x new next → IsGrown set all (old ++ x ∷ []) next
grown_more set all old new next x grown gains = record {
  rising = gains.rising grown.rising;
  more = gains.more grown.more;
  few = let a = gains.few in let b = grown.few in simp length-append (omega arith);
  from_old = λ y there. came y (gains.items y there);
  of_old = λ z there. went z (Contains-push_cases old x z there);
}
  where
    came : (y : Listed) → Contains new y ⊎ HasGained set x y → (z : Listed) × (Contains (old ++ x ∷ []) z × HasGained set z y)
    came y (inl there) = let from = grown.from_old y there in (from.0, (Contains-append_left old (x ∷ []) from.0 from.1.0, from.1.1))
    came y (inr has) = (x, (Contains-push old x, has))

    went_old : (z : Listed) → ((y : Listed) × (Contains new y × HasGained set z y)) ⊎ IsSame (vector_has all) (both set (vector_has z.vector)) → ((y : Listed) × (Contains next y × HasGained set z y)) ⊎ IsSame (vector_has all) (both set (vector_has z.vector))
    went_old z (inl kept) = inl (kept.0, (gains.stays kept.0 kept.1.0, kept.1.1))
    went_old z (inr same) = inr same

    went : (z : Listed) → Contains old z ⊎ (x ≡ z) → ((y : Listed) × (Contains next y × HasGained set z y)) ⊎ IsSame (vector_has all) (both set (vector_has z.vector))
    went z (inl there) = went_old z (grown.of_old z there)
    went z (inr e) = rw (← e) gains.gains

-- what has grown so far stands before the next item
pub before_next : (set : Versions) (all : List AuthorColumn) (old new : List Listed) (x : Listed) → IsGrown set all old new → All (λ y. IsBefore y x) old → All (λ y. IsBefore y x) new
before_next set all old new x grown before k d within =
    let from = grown.from_old (get_or new k d) (k, within, default new k d within) in
    let low : IsBefore from.0 x = All-contains (λ y. IsBefore y x) old from.0 before from.1.0 in
    rw from.1.1.item low
  where
    default : (xs : List Listed) (k : ℕ) (d : Listed) → k < length xs → get_or xs k (get_or xs k d) ≡ get_or xs k d
    default [] k d within = absurd (omega arith)
    default (y ∷ ys) k d within = go k within (λ j inside. default ys j d inside)
      where
        go : (k : ℕ) → k < length (y ∷ ys) → ((j : ℕ) → j < length ys → get_or ys j (get_or ys j d) ≡ get_or ys j d) → get_or (y ∷ ys) k (get_or (y ∷ ys) k d) ≡ get_or (y ∷ ys) k d
        go zero inside rest = refl
        go (suc j) inside rest = rest j (omega arith)

-- THE GROWN KNOWLEDGE knows what was known, and the set for all items
pub grown_known : {limit : ℕ} (set : Versions) (k new : Normal) → IsNormal limit k → IsGrown set new.all k.listed new.listed → IsSame (vector_has new.all) (both set (vector_has k.all)) → AreSame (normal_known new) (with_all (normal_known k) set)
grown_known set k new normal grown all i v = go (vector_in-cases new.all new.listed i)
  where
    has : List AuthorColumn → Bool
    has c = vector_has c v

    kept : (y : Listed) → Contains new.listed y → y.item ≡ i → vector_has y.vector v ≡ (set v || vector_has (vector_in k.all k.listed i) v)
    kept y there is =
        let from = grown.from_old y there in
        let same : from.0.item ≡ i = sym from.1.1.item ∙ is in
        let mine : vector_in k.all k.listed i ≡ from.0.vector = ap (λ (j : Name). vector_in k.all k.listed j) (sym same) ∙ vector_in-has k.all k.listed from.0 normal.rising from.1.0 in
        from.1.1.vector v ∙ ap (λ (c : List AuthorColumn). set v || vector_has c v) (sym mine)

    none : vector_in new.all new.listed i ≡ new.all → (vector_in k.all k.listed i ≡ k.all) ⊎ ((x : Listed) × (Contains k.listed x × ((x.item ≡ i) × (vector_in k.all k.listed i ≡ x.vector)))) → vector_has (vector_in new.all new.listed i) v ≡ (set v || vector_has (vector_in k.all k.listed i) v)
    none e (inl before) = ap (λ (c : List AuthorColumn). vector_has c v) e ∙ all v ∙ ap (λ (c : List AuthorColumn). set v || vector_has c v) (sym before)
    none e (inr x) = gone e x.0 x.1.1.0 x.1.1.1 (grown.of_old x.0 x.1.0)
      where
        gone : vector_in new.all new.listed i ≡ new.all → (x : Listed) → x.item ≡ i → vector_in k.all k.listed i ≡ x.vector → ((y : Listed) × (Contains new.listed y × HasGained set x y)) ⊎ IsSame (vector_has new.all) (both set (vector_has x.vector)) → vector_has (vector_in new.all new.listed i) v ≡ (set v || vector_has (vector_in k.all k.listed i) v)
        gone e x is mine (inl y) =
            let theirs : vector_in new.all new.listed i ≡ y.0.vector = ap (λ (j : Name). vector_in new.all new.listed j) (sym (y.1.1.item ∙ is)) ∙ vector_in-has new.all new.listed y.0 grown.rising y.1.0 in
            ap (λ (c : List AuthorColumn). vector_has c v) theirs ∙ kept y.0 y.1.0 (y.1.1.item ∙ is)
        gone e x is mine (inr same) = ap (λ (c : List AuthorColumn). vector_has c v) e ∙ same v ∙ ap (λ (c : List AuthorColumn). set v || vector_has c v) (sym mine)

    go : (vector_in new.all new.listed i ≡ new.all) ⊎ ((y : Listed) × (Contains new.listed y × ((y.item ≡ i) × (vector_in new.all new.listed i ≡ y.vector)))) → vector_has (vector_in new.all new.listed i) v ≡ (set v || vector_has (vector_in k.all k.listed i) v)
    go (inl e) = none e (vector_in-cases k.all k.listed i)
    go (inr y) = ap (λ (c : List AuthorColumn). vector_has c v) y.1.1.1 ∙ kept y.0 y.1.0 y.1.1.0

-- what all have then, the item has with what is added
pub covers_grown : (set : Versions) (all before : List AuthorColumn) (x : Listed) → IsSame (vector_has all) (both set (vector_has before)) → HasMore before x → (v : Name) → vector_has all v ≡ true → both set (vector_has x.vector) v ≡ true
covers_grown set all before x has more v there = grind arith
