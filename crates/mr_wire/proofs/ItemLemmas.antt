-- Items and fragments: their laws, and that they are read from their parts.
use Rattle.std.proofs.Common.{◌≡◌, ℕ, ◌≤◌, Bool, true, false, cond, eqb, ◌&&◌, List, [], ◌∷◌, ◌++◌, length, Option, Some, None, ◌⊎◌, inl, inr, refl, sym, ap, subst, ◌∙◌, arith, lit<, append_assoc}
use Rattle.mr_wire.proofs.Names.{AllByRecursion, AreFramed, AreItems, AuthorColumn, IfSome, IsFramed, IsItem, IsSomeAnd, ItemsRise, Name, Piece, Stands, Vec}
use Rattle.mr_wire.proofs.Names.{as_at, eqb-true, first_item, first_or, flat_map, fragment_at, fragment_bytes, item_at, item_follows, items_at, items_bytes}
use Rattle.mr_wire.proofs.Names.{le-leb, least_item, leb-true, listed_items, listed_items_at, name_bytes, nat_le, next_item, number_at, only_at, u32, u8}
use Rattle.mr_wire.proofs.Names.{vector_at, w32, w8}
use Rattle.mr_forms.specs.declared.fragment.ItemSet.{ItemSet}
use Rattle.mr_wire.proofs.Laws.{Reads, RunFits, bind_some, some_is, and_left, and_right, reads_like, reads_only, reads_as, reads_then, reads_counted, reads_run, reads_u8, reads_u32}
use Rattle.mr_wire.proofs.PartLaws.{reads_name, reads_vector, both}

abbrev pub ItemFits : Option Name → Name → Type 0
ItemFits before item = IsItem item × (item_follows before item ≡ true)

pub reads_item : (before : Option Name) → Reads (ItemFits before) name_bytes (item_at before)
reads_item before = reads_only (item_follows before) reads_name

items_rise : (xs : List Name) (before : Option Name) → RunFits ItemFits next_item before xs → ItemsRise before xs
items_rise [] before h = tt
items_rise (x ∷ xs) before h = (h.0.1, items_rise xs (Some x) h.1)

items_are : (xs : List Name) (before : Option Name) → RunFits ItemFits next_item before xs → AllByRecursion IsItem xs
items_are [] before h = tt
items_are (x ∷ xs) before h = (h.0.0, items_are xs (Some x) h.1)

items_fit : (xs : List Name) (before : Option Name) → ItemsRise before xs → AllByRecursion IsItem xs → RunFits ItemFits next_item before xs
items_fit [] before rise are = tt
items_fit (x ∷ xs) before rise are = ((are.0, rise.0), items_fit xs (Some x) rise.1 are.1)

abbrev IsCount : ℕ → Type 0
IsCount n = (1 ≤ n) × (n ≤ 65536)

count_of_items : Reads IsCount u32 (only_at (λ n. nat_le 1 n && nat_le n 65536) (number_at w32))
count_of_items = grind (arith, reads_like, reads_only, reads_u32, leb-true, and_left, and_right, both, le-leb)

abbrev AreListed : List Name → Type 0
AreListed items = IsCount (length items) × RunFits ItemFits next_item None items

reads_listed : Reads AreListed (λ items. u32 (length items) ++ flat_map name_bytes items) listed_items_at
reads_listed = reads_counted length count_of_items (λ n. reads_run next_item reads_item None n)

choose : {A : Type 0} (b : Bool) (x y : Option A) (z : A) → cond b x y ≡ Some z → ((b ≡ true) × (x ≡ Some z)) ⊎ ((b ≡ false) × (y ≡ Some z))
choose b x y z e = grind arith

listed_framed : (items : List Name) → AreListed items → AreFramed (Some items)
listed_framed items h = record { rise = (h.0.0, h.0.1, items_rise items None h.1); each = items_are items None h.1 }

items_take : (bytes : List ℕ) (items : Option (List Name)) (rest : List ℕ) → items_at bytes ≡ Some (items, rest) → (bytes ≡ items_bytes items ++ rest) × AreFramed items
items_take bytes items rest e =
    let a = bind_some (number_at w8 bytes) (λ tag. cond (eqb tag.0 0) (Some (None, tag.1)) (cond (eqb tag.0 1) (as_at (λ (xs : List Name). Some xs) listed_items_at tag.1) None)) (items, rest) e in
    let t = reads_u8.takes bytes a.0.0 a.0.1 a.1 in
    elim (choose (eqb a.0.0 0) (Some (None, a.0.1)) (cond (eqb a.0.0 1) (as_at (λ (xs : List Name). Some xs) listed_items_at a.0.1) None) (items, rest) a.2) [
      | inl h ↦
          let first : Option (List Name) × List ℕ = (None, a.0.1) in
          let second : Option (List Name) × List ℕ = (items, rest) in
          let whole : bytes ≡ u8 0 ++ a.0.1 = t.0 ∙ ap (λ (n : ℕ). u8 n ++ a.0.1) (eqb-true a.0.0 0 h.0) in
          subst (λ (q : Option (List Name) × List ℕ). (bytes ≡ items_bytes q.0 ++ q.1) × AreFramed q.0) (some_is first second h.1) (whole, record { rise = tt; each = tt })
      | inr h ↦
          let g = test_listed (eqb a.0.0 1) (as_at (λ (xs : List Name). Some xs) listed_items_at a.0.1) (items, rest) h.1 in
          let b = bind_some (listed_items_at a.0.1) (λ xs. Some (Some xs.0, xs.1)) (items, rest) g.1 in
          let first : Option (List Name) × List ℕ = (Some b.0.0, b.0.1) in
          let second : Option (List Name) × List ℕ = (items, rest) in
          let v = reads_listed.takes a.0.1 b.0.0 b.0.1 b.1 in
          let whole : bytes ≡ (u8 1 ++ (u32 (length b.0.0) ++ flat_map name_bytes b.0.0)) ++ b.0.1 =
          t.0 ∙ ap (λ (n : ℕ). u8 n ++ a.0.1) (eqb-true a.0.0 1 g.0) ∙ ap (λ (z : List ℕ). u8 1 ++ z) v.0 ∙ sym (append_assoc (u8 1) (u32 (length b.0.0) ++ flat_map name_bytes b.0.0) b.0.1) in
          subst (λ (q : Option (List Name) × List ℕ). (bytes ≡ items_bytes q.0 ++ q.1) × AreFramed q.0) (some_is first second b.2) (whole, listed_framed b.0.0 v.1)
    ]
  where
    test_listed : {A : Type 0} (b : Bool) (x : Option A) (z : A) → cond b x None ≡ Some z → (b ≡ true) × (x ≡ Some z)
    test_listed true x z e = (refl, e)
    test_listed false x z e = absurd cc

items_again : (items : Option (List Name)) (rest : List ℕ) → AreFramed items → items_at (items_bytes items ++ rest) ≡ Some (items, rest)
items_again items rest h = grind (arith, reads_u8, lit<, items_fit, append_assoc, reads_listed)

pub reads_items : Reads AreFramed items_bytes items_at
reads_items = record { takes = items_take; again = items_again }

pub reads_fragment : Reads IsFramed fragment_bytes fragment_at
reads_fragment = reads_like IsFramed fragment_bytes
    (reads_as (λ (p : Option (List Name) × List AuthorColumn). record { items = p.0; vector = p.1 }) (λ (f : Piece). (f.items, f.vector)) (λ f. refl) (λ p. refl) (reads_then reads_items (λ _. reads_vector)))
    (λ f h. record { items_in = h.0; vector_in = h.1 }) (λ f h. (h.items_in, h.vector_in)) (λ f. refl)

-- ---- reading

pub items_more : (first : Option Name) (xs : List Name) (x : Name) → first ≡ first_item xs → first_or first x ≡ first_item (xs ++ x ∷ [])
items_more first xs x h = grind arith

pub if_listed : (kept : Option ItemSet) (items : Option (List Name)) → IfSome kept (λ set. listed_items set ≡ items) → AreItems items → IfSome kept (λ set. AreItems (listed_items set))
if_listed kept items is are = grind arith

pub if_items : {old new : List ℕ} {kept : Option ItemSet} {Note : Option (List Name) → Type 0} → Stands listed_items items_at old kept new Note → IfSome kept (λ set. AreItems (listed_items set))
if_items {old} {new} {kept} s = if_listed kept s.part s.is_part ((items_take old s.part new s.stands).1.rise)

kept_set : (set : Option ItemSet) (kept : Option (Vec Name)) (items : List Name) → IfSome kept (λ v. v.items ≡ items) → IfSome set (λ s. IsSomeAnd kept (λ v. listed_items s ≡ Some v.items)) → IfSome set (λ s. listed_items s ≡ Some items)
kept_set None kept items is made = tt
kept_set (Some s) None items is made = absurd made
kept_set (Some s) (Some v) items is made = made ∙ ap (λ xs. Some xs) is

least_first : (items : List Name) → first_item items ≡ least_item (Some items)
least_first [] = refl
least_first (x ∷ xs) = refl

pub stands_listed : (old r1 : List ℕ) (tag : ℕ) → number_at w8 old ≡ Some (tag, r1) → tag ≡ 1 → (set : Option ItemSet) (kept : Option (Vec Name)) (least : Option Name) (new : List ℕ) →
    Stands (λ (v : Vec Name). v.items) listed_items_at r1 kept new (λ items. least ≡ first_item items) → IfSome set (λ s. IsSomeAnd kept (λ v. listed_items s ≡ Some v.items)) →
    Stands listed_items items_at old set new (λ items. least ≡ least_item items)
stands_listed old r1 tag e is set kept least new s made =
    let e' : number_at w8 old ≡ Some (1, r1) = e ∙ ap (λ (n : ℕ). Some (n, r1)) is in
    record { part = Some s.part; stands = rw (e', s.stands) refl; is_part = kept_set set kept s.part s.is_part made; told = s.told ∙ least_first s.part }

pub stands_all : (old r1 : List ℕ) (tag : ℕ) (set : ItemSet) → listed_items set ≡ None → number_at w8 old ≡ Some (tag, r1) → tag ≡ 0 → Stands listed_items items_at old (Some set) r1 (λ items. None ≡ least_item items)
stands_all old r1 tag set h e is = grind arith

kept_fragment : (f : Option Piece) (set : Option ItemSet) (vector : Option (List AuthorColumn)) (items : Option (List Name)) (columns : List AuthorColumn) → IfSome set (λ s. listed_items s ≡ items) → IfSome vector (λ v. v ≡ columns) →
    IfSome f (λ f. IsSomeAnd set (λ s. IsSomeAnd vector (λ v. f ≡ record { items = listed_items s; vector = v }))) → IfSome f (λ f. f ≡ record { items = items; vector = columns })
kept_fragment f set vector items columns a b made = grind arith

pub stands_fragment : (old r1 new : List ℕ) (f : Option Piece) (set : Option ItemSet) (vector : Option (List AuthorColumn)) (least : Option Name) →
    Stands listed_items items_at old set r1 (λ items. least ≡ least_item items) → Stands (λ (v : List AuthorColumn). v) vector_at r1 vector new (λ _. Unit {0}) →
    IfSome f (λ f. IsSomeAnd set (λ s. IsSomeAnd vector (λ v. f ≡ record { items = listed_items s; vector = v }))) →
    Stands (λ (f : Piece). f) fragment_at old f new (λ f. least ≡ least_item f.items)
stands_fragment old r1 new f set vector least s t made = record {
  part = record { items = s.part; vector = t.part };
  stands = rw (s.stands, t.stands) refl;
  is_part = kept_fragment f set vector s.part t.part s.is_part t.is_part made;
  told = s.told;
}
