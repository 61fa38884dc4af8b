-- What is told of listed items, one after the other, and the groups of those of which the same is told.
use Rattle.std.proofs.Common.{◌≡◌, ◌≤◌, ◌||◌, ◌⊎◌, ◌==◌, ℕ, Bool, true, false, not, List, [], ◌∷◌, ◌++◌, length, Some, None, All, map, refl, ap, sym, ◌∙◌, subst, eqb-true, arith, inl, inr}
use Rattle.mr_itemset.proofs.Names.{Alike, All-head, All-tail, AllZip, AreTold, AreToldItems, AuthorColumn, Covers, Fits, GainsTold, HasMore, IsNormal}
use Rattle.mr_itemset.proofs.Names.{IsSame, IsToldItem, IsToldOf, IsVectorFrom, IsVectorOf, Lacks, Listed, MAX_ITEMS, Name, Normal, Shown, Versions}
use Rattle.mr_itemset.proofs.Names.{all_grouped, alone, bound-is_last, cases_Bool, column_has-empty, column_of, eq-eqb, false≢true, fragments_in}
use Rattle.mr_itemset.specs.Folded.{folded}
use Rattle.mr_itemset.proofs.Names.{grouped, of_author, shown_group, takes, united, vector_eq, vector_eq-same, vector_has, vectors_same}
use Rattle.mr_forms.specs.Sets.{both}
use Rattle.mr_itemset.specs.Folded.{gained}
use Rattle.mr_itemset.specs.Groups.{with_item}
use Rattle.mr_itemset.proofs.ColumnsLemmas.{united-vector, united-has}
use Rattle.mr_itemset.proofs.CountLemmas.{stays_yes, stays_no}
use Rattle.mr_itemset.proofs.ToldLemmas.{told_unique, told_same, told_beyond, beyond_parts, beyond_from}
use Rattle.mr_itemset.proofs.ToldWalk.{joined, beyond_with, beyond_beside}

pub none_from : (told : List AuthorColumn) → (length told == 0) ≡ true → told ≡ []
none_from [] e = refl
none_from (x ∷ xs) e = let none : length (x ∷ xs) ≡ 0 = eqb-true (length (x ∷ xs)) 0 e in absurd (omega arith)

pub some_from : (told : List AuthorColumn) → (length told == 0) ≡ false → told ≡ [] → ⊥
some_from told e none = false≢true (sym e ∙ ap (λ (ts : List AuthorColumn). length ts == 0) none)

-- where nothing is told, all items have what the item has
pub told_nothing : (all own told : List AuthorColumn) → AreTold (vector_has all) (both (vector_has all) (vector_has own)) (vector_has told) → told ≡ [] → Covers (vector_has all) (vector_has own)
told_nothing all own told are h v is = grind (arith, cases_Bool, beyond_with, beyond_from, told_beyond, joined, false≢true, column_has-empty)

-- and where something is told, they lack it
pub told_something : (all own told : List AuthorColumn) → IsVectorFrom 0 told → AreTold (vector_has all) (both (vector_has all) (vector_has own)) (vector_has told) → (told ≡ [] → ⊥) → Lacks (vector_has all) (vector_has own)
told_something all own [] ok are some = absurd (some refl)
told_something all own (x ∷ xs) ok are some =
    let column : column_of (x ∷ xs) x.author ≡ x.column = rw (eq-eqb x.author x.author refl) refl in
    let high : 1 ≤ (column_of (x ∷ xs) x.author).upto = rw column ok.1 in
    let last = bound-is_last (x ∷ xs) x.author ok high in
    let stretch = (are (record { author = x.author; counter = (column_of (x ∷ xs) x.author).upto })).0 last.is_in in
    let a = of_author (vector_has all) x.author in
    let o = of_author (vector_has own) x.author in
    let parts = beyond_parts a o stretch.last (beyond_beside a o stretch.last stretch.ends) in
    record { version = record { author = x.author; counter = stretch.last }; is_out = parts.1; is_in = parts.0 }

-- one item more
pub told_more : (all : List AuthorColumn) (xs : List Listed) (ts new : List Listed) (x : Listed) → AreToldItems all xs ts → GainsTold all x ts new → AreToldItems all (xs ++ x ∷ []) new
told_more all [] ts new x none (inl c) = inl (c.0, c.1 ∙ none)
told_more all [] ts new x none (inr l) = inr (l.0, (l.1.0, ([], (l.1.1.1 ∙ ap (λ (ys : List Listed). ys ++ l.1.0 ∷ []) none, (l.1.1.0, refl)))))
told_more all (y ∷ ys) ts new x (inl c) step = inl (c.0, told_more all ys ts new x c.1 step)
told_more all (y ∷ ys) ts new x (inr l) (inl c) = inr (l.0, (l.1.0, (l.1.1.0, (c.1 ∙ l.1.1.1.0, (l.1.1.1.1.0, told_more all ys l.1.1.0 l.1.1.0 x l.1.1.1.1.1 (inl (c.0, refl)))))))
told_more all (y ∷ ys) ts new x (inr l) (inr m) = inr (
  l.0,
  (
    l.1.0,
    (
      l.1.1.0 ++ m.1.0 ∷ [],
      (
        m.1.1.1 ∙ ap (λ (zs : List Listed). zs ++ m.1.0 ∷ []) l.1.1.1.0,
        (l.1.1.1.1.0, told_more all ys l.1.1.0 (l.1.1.0 ++ m.1.0 ∷ []) x l.1.1.1.1.1 (inr (m.0, (m.1.0, (m.1.1.0, refl))))),
      ),
    ),
  ),
)

-- ---- what the items have in the normal form

-- of an item of the normal form it is told what it has
pub record TellsWhole (all : List AuthorColumn) (x t : Listed) : Type 0 where
  pub item : t.item ≡ x.item
  pub whole_ok : IsVectorFrom 0 x.vector
  pub covers : Covers (vector_has x.vector) (vector_has all)
  pub vector_ok : IsVectorFrom 0 t.vector
  pub tells : AreTold (vector_has all) (vector_has x.vector) (vector_has t.vector)

or-covers : (a p b x : Bool) → a ≡ (p || b) → (b ≡ true → x ≡ true) → (a || x) ≡ (p || x)
or-covers a p true x is covers = rw (is, covers refl) (top p)
  where
    top : (p : Bool) → ((p || true) || true) ≡ (p || true)
    top true = refl
    top false = refl
or-covers a p false x is covers = rw is (go p x)
  where
    go : (p x : Bool) → ((p || false) || x) ≡ (p || x)
    go true x = refl
    go false x = refl

or-has : (p x a b : Bool) → a ≡ (p || b) → (b ≡ true → x ≡ true) → a ≡ true → (p || x) ≡ true
or-has p x a b is covers has = grind arith

module _ (before added : List AuthorColumn) (va : IsVectorFrom 0 added) (vb : IsVectorFrom 0 before) (fits : Fits before added) where
  abbrev then_all : List AuthorColumn
  then_all = united before added

  all_has : IsSame (vector_has then_all) (both (vector_has added) (vector_has before))
  all_has = united-has before added vb va fits

  -- an item that has something beside stays listed, and it is told what it then has
  whole_item : (x t : Listed) → HasMore before x → Fits x.vector added → IsToldItem then_all x t → TellsWhole then_all (record { item = x.item; vector = united x.vector added }) t
  whole_item x t more fit told =
      let has : IsSame (vector_has (united x.vector added)) (both (vector_has added) (vector_has x.vector)) = united-has x.vector added more.vector_ok va fit in
      record {
        item = told.item;
        whole_ok = united-vector x.vector added more.vector_ok va fit;
        covers = λ v is. has v ∙ or-has (vector_has added v) (vector_has x.vector v) (vector_has then_all v) (vector_has before v) (all_has v) (more.covers v) is;
        vector_ok = told.vector_ok;
        tells = subst (λ (own : Versions). AreTold (vector_has then_all) own (vector_has t.vector)) (λ i v. (or-covers (vector_has then_all v) (vector_has added v) (vector_has before v) (vector_has x.vector v) (all_has v) (more.covers v) ∙ sym (has v)) i) told.tells;
      }

  lacks_before : (set : Versions) → Lacks (vector_has then_all) set → Lacks (both (vector_has added) (vector_has before)) set
  lacks_before set lacks = record { version = lacks.version; is_out = sym (all_has lacks.version) ∙ lacks.is_out; is_in = lacks.is_in }

  covers_before : (set : Versions) → Covers (vector_has then_all) set → Covers (both (vector_has added) (vector_has before)) set
  covers_before set covers v is = sym (all_has v) ∙ covers v is

  flip-false : (b : Bool) → not b ≡ true → b ≡ false
  flip-false b e = grind (arith, false≢true)

  flip-true : (b : Bool) → not b ≡ false → b ≡ true
  flip-true b e = grind (arith, false≢true)

  -- THE LISTED ITEMS of the normal form are those of which something is told
  pub told_gained : (xs ts : List Listed) → All (HasMore before) xs → All (λ x. Fits x.vector added) xs → AreToldItems then_all xs ts → AllZip (TellsWhole then_all) (gained added then_all xs) ts
  told_gained [] ts more each none = subst (λ (ys : List Listed). AllZip (TellsWhole then_all) [] ys) (sym none) tt
  told_gained (x ∷ xs) ts more each told = go (λ ys. told_gained xs ys (All-tail (HasMore before) x xs more) (All-tail (λ y. Fits y.vector added) x xs each)) told
    where
      mine : HasMore before x
      mine = All-head (HasMore before) x xs more

      fit : Fits x.vector added
      fit = All-head (λ y. Fits y.vector added) x xs each

      go : ((ys : List Listed) → AreToldItems then_all xs ys → AllZip (TellsWhole then_all) (gained added then_all xs) ys) → (Covers (vector_has then_all) (vector_has x.vector) × AreToldItems then_all xs ts) ⊎ (Lacks (vector_has then_all) (vector_has x.vector) × ((t : Listed) × ((ys : List Listed) × ((ts ≡ t ∷ ys) × (IsToldItem then_all x t × AreToldItems then_all xs ys))))) → AllZip (TellsWhole then_all) (gained added then_all (x ∷ xs)) ts
      go rest (inl c) =
          let gone : vector_eq (united x.vector added) then_all ≡ true = flip-true (vector_eq (united x.vector added) then_all) (stays_no added before x.vector va vb mine.vector_ok fits fit mine.covers (covers_before (vector_has x.vector) c.0)) in
          rw gone (rest ts c.1)
      go rest (inr l) =
          let stays : vector_eq (united x.vector added) then_all ≡ false = flip-false (vector_eq (united x.vector added) then_all) (stays_yes added before x.vector va vb mine.vector_ok fits fit (lacks_before (vector_has x.vector) l.0)) in
          rw (stays, l.1.1.1.0) (whole_item x l.1.0 mine fit l.1.1.1.1.0, rest l.1.1.0 l.1.1.1.1.1)

-- ---- the groups

-- of a group's items it is told what they have
pub record AreAlike (all : List AuthorColumn) (g h : Alike) : Type 0 where
  pub items : h.items ≡ g.items
  pub whole_ok : IsVectorFrom 0 g.vector
  pub covers : Covers (vector_has g.vector) (vector_has all)
  pub vector_ok : IsVectorFrom 0 h.vector
  pub tells : AreTold (vector_has all) (vector_has g.vector) (vector_has h.vector)

both_or_none : (a b : Bool) → (a ≡ true → b ≡ true) → (b ≡ true → a ≡ true) → b ≡ a
both_or_none a b up down = grind arith

module _ (all : List AuthorColumn) (g h : Alike) (x t : Listed) (alike : AreAlike all g h) (whole : TellsWhole all x t) where
  -- where they have the same, the same is told
  told_alike : IsSame (vector_has g.vector) (vector_has x.vector) → IsSame (vector_has h.vector) (vector_has t.vector)
  told_alike same v =
      let of_x : AreTold (vector_has all) (vector_has x.vector) (vector_has h.vector) = subst (λ (own : Versions). AreTold (vector_has all) own (vector_has h.vector)) (λ i w. same w i) alike.tells in
      ap (λ (s : Versions). s v) (told_unique (vector_has all) (vector_has x.vector) (vector_has h.vector) (vector_has t.vector) of_x whole.tells)

  -- and where the same is told, they have the same
  have_alike : IsSame (vector_has h.vector) (vector_has t.vector) → IsSame (vector_has g.vector) (vector_has x.vector)
  have_alike same v = go (cases_Bool (vector_has all v))
    where
      go : (vector_has all v ≡ true) ⊎ (vector_has all v ≡ false) → vector_has g.vector v ≡ vector_has x.vector v
      go (inl has) = alike.covers v has ∙ sym (whole.covers v has)
      go (inr lacks) =
          sym (told_same (vector_has all) (vector_has g.vector) (vector_has h.vector) alike.tells v lacks)
          ∙ same v
          ∙ told_same (vector_has all) (vector_has x.vector) (vector_has t.vector) whole.tells v lacks

  eq_alike : vector_eq h.vector t.vector ≡ vector_eq g.vector x.vector
  eq_alike = grind (arith, both_or_none, vector_eq-same, told_alike, have_alike)

  takes_alike : (most : ℕ) → takes most h t.vector ≡ takes most g x.vector
  takes_alike most = rw (eq_alike, alike.items) refl

  with_alike : AreAlike all (with_item g x.item) (with_item h t.item)
  with_alike = grind arith

alone_alike : (all : List AuthorColumn) (x t : Listed) → TellsWhole all x t → AreAlike all (alone x) (alone t)
alone_alike all x t whole = grind arith

grouped_alike : (all : List AuthorColumn) (most : ℕ) (gs hs : List Alike) (x t : Listed) → AllZip (AreAlike all) gs hs → TellsWhole all x t → AllZip (AreAlike all) (grouped most gs x) (grouped most hs t)
grouped_alike all most [] [] x t zip whole = (alone_alike all x t whole, tt)
grouped_alike all most [] (h ∷ hs) x t zip whole = absurd zip
grouped_alike all most (g ∷ gs) [] x t zip whole = absurd zip
grouped_alike all most (g ∷ gs) (h ∷ hs) x t zip whole = go (cases_Bool (takes most g x.vector)) (grouped_alike all most gs hs x t zip.1 whole)
  where
    same : takes most h t.vector ≡ takes most g x.vector
    same = takes_alike all g h x t zip.0 whole most

    go : (takes most g x.vector ≡ true) ⊎ (takes most g x.vector ≡ false) → AllZip (AreAlike all) (grouped most gs x) (grouped most hs t) → AllZip (AreAlike all) (grouped most (g ∷ gs) x) (grouped most (h ∷ hs) t)
    go (inl takes_it) rest =
        let also : takes most h t.vector ≡ true = same ∙ takes_it in
        rw (takes_it, also) (with_alike all g h x t zip.0 whole, zip.1)
    go (inr not_it) rest =
        let neither : takes most h t.vector ≡ false = same ∙ not_it in
        rw (not_it, neither) (zip.0, rest)

all_alike : (all : List AuthorColumn) (most : ℕ) (gs hs : List Alike) (xs ts : List Listed) → AllZip (AreAlike all) gs hs → AllZip (TellsWhole all) xs ts → AllZip (AreAlike all) (all_grouped most gs xs) (all_grouped most hs ts)
all_alike all most gs hs [] [] zip told = zip
all_alike all most gs hs [] (t ∷ ts) zip told = absurd told
all_alike all most gs hs (x ∷ xs) [] zip told = absurd told
all_alike all most gs hs (x ∷ xs) (t ∷ ts) zip told = all_alike all most (grouped most gs x) (grouped most hs t) xs ts (grouped_alike all most gs hs x t zip told.0) told.1

alike_shown : (all : List AuthorColumn) (gs hs : List Alike) → AllZip (AreAlike all) gs hs → AllZip (IsToldOf all) (map shown_group gs) (map shown_group hs)
alike_shown all [] [] zip = tt
alike_shown all [] (h ∷ hs) zip = absurd zip
alike_shown all (g ∷ gs) [] zip = absurd zip
alike_shown all (g ∷ gs) (h ∷ hs) zip = (record { items = ap (λ (is : List Name). Some is) zip.0.items; tells = zip.0.tells }, alike_shown all gs hs zip.1)

-- THE FRAGMENTS of what is told are those of the normal form
pub told_fragments : {limit : ℕ} (settled : Normal) (pending all : List AuthorColumn) (ts : List Listed) (fs : List Shown) → IsNormal limit settled → IsVectorFrom 0 pending → Fits settled.all pending → All (λ x. Fits x.vector pending) settled.listed → IsVectorOf (both (vector_has pending) (vector_has settled.all)) all → AreToldItems all settled.listed ts → fs ≡ (record { items = None; vector = all }) ∷ map shown_group (all_grouped MAX_ITEMS [] ts) → AllZip (IsToldOf (folded settled pending).all) (fragments_in (folded settled pending)) fs
unfolding folded
told_fragments settled pending all ts fs normal va fits each is told shown =
    let same : all ≡ united settled.all pending = vectors_same all (united settled.all pending) is.columns_ok (united-vector settled.all pending normal.all_ok va fits) (λ v. is.has v ∙ sym (united-has settled.all pending normal.all_ok va fits v)) in
    let of_all : AreToldItems (united settled.all pending) settled.listed ts = subst (λ (c : List AuthorColumn). AreToldItems c settled.listed ts) same told in
    let zip : AllZip (TellsWhole (united settled.all pending)) (gained pending (united settled.all pending) settled.listed) ts = told_gained settled.all pending va normal.all_ok fits settled.listed ts normal.more each of_all in
    let groups : AllZip (IsToldOf (united settled.all pending)) (map shown_group (all_grouped MAX_ITEMS [] (gained pending (united settled.all pending) settled.listed))) (map shown_group (all_grouped MAX_ITEMS [] ts)) =
    alike_shown (united settled.all pending) (all_grouped MAX_ITEMS [] (gained pending (united settled.all pending) settled.listed)) (all_grouped MAX_ITEMS [] ts) (all_alike (united settled.all pending) MAX_ITEMS [] [] (gained pending (united settled.all pending) settled.listed) ts tt zip) in
    subst (λ (ss : List Shown). AllZip (IsToldOf (united settled.all pending)) (fragments_in (record { all = united settled.all pending; listed = gained pending (united settled.all pending) settled.listed })) ss) (sym shown)
    (record { items = refl; tells = ap (λ (c : List AuthorColumn). vector_has c) same }, groups)
