-- Knowledge by sets of items is told apart by what it knows alone: some item is listed by neither of two values, so what is
-- known for all items is decided, and with it all that either form says of a value.
use Rattle.std.specs.Prelude.{◌≡◌, ◌+◌, ◌<◌, ◌==◌, ℕ, zero, suc, Bool, false, ◌||◌, ◌&&◌, not, nat_le, nat_lt, if◌then◌else◌, List, Option, Some, None, refl}
use Rattle.std.specs.List.{list_any}
use Rattle.std.proofs.Common.{ap, sym, subst, ◌∙◌}
use Rattle.std.proofs.Math.Bool.{and-false}
use Rattle.std.proofs.Math.Nat.{add-suc, add-zero, add_comm, le-add_right, lt_of_le_of_lt, lt-suc_self}
use Rattle.std.proofs.lemmas.Bool.{lt-leb}
use Rattle.mr_version.specs.Name.{Name}
use Rattle.mr_forms.specs.declared.fragment.TheConstants.{MAX_ITEMS}
use Rattle.mr_forms.specs.Sets.{Versions}
use Rattle.mr_forms.specs.Known.{Pairs, AreSame, Part}
use Rattle.mr_forms.specs.ByMeaning.{IsByMeaning}
use Rattle.mr_forms.specs.inner.Fresh.{unlisted_in_both}
use Rattle.mr_concise.specs.declared.vector.AuthorColumn.{AuthorColumn}
use Rattle.mr_concise.specs.Column.{Extent, column_has}
use Rattle.mr_concise.specs.Vector.{column_of, vector_has}
use Rattle.mr_itemset.specs.declared.rule.TheConstants.{SPARED_HOLES}
use Rattle.mr_itemset.specs.Normal.{Normal, normal_known}
use Rattle.mr_itemset.specs.inner.Normal.{items_of}
use Rattle.mr_itemset.specs.ItemForm.{HasNormalVersions, items_form}
use Rattle.mr_itemset.specs.ListingLaws.{vector_in-free}
use Rattle.mr_itemset.specs.Pieces.{HasPiece}
use Rattle.mr_itemset.specs.Told.{Tells, IsToldPart}
use Rattle.mr_itemset.specs.Sparing.{before, holes_among, holes_for_all, goes_to_all, comes_next, spreads, sparing_form}

-- ---- holes

none_here : (f : ℕ → Bool) (c : ℕ) → f (suc c) ≡ false → holes_among f (suc c) ≡ holes_among f c
none_here f c none = ap (λ (b : Bool). if b && (nat_le 1 c && not (f c)) then suc (holes_among f c) else holes_among f c) none

-- past the last counter of a set no hole ends
none_past : (f : ℕ → Bool) (n d : ℕ) → ((c : ℕ) → n < c → f c ≡ false) → holes_among f (n + d) ≡ holes_among f n
none_past f n zero above = ap (holes_among f) (add-zero n)
none_past f n (suc d) above = ap (holes_among f) (add-suc n d) ∙ none_here f (n + d) (above (suc (n + d)) (lt_of_le_of_lt (le-add_right n d) (lt-suc_self (n + d)))) ∙ none_past f n d above

past_upto : (column : Extent) (c : ℕ) → column.upto < c → column_has column c ≡ false
past_upto column c past =
    ap (λ (b : Bool). (nat_le 1 c && b) && not (list_any (λ hole. nat_le hole.first c && nat_le c hole.last) column.holes)) (lt-leb c column.upto past)
    ∙ ap (λ (b : Bool). b && not (list_any (λ hole. nat_le hole.first c && nat_le c hole.last) column.holes)) (and-false (nat_le 1 c))

-- columns that have the same have as many holes
same_holes : (a b : Extent) → ((c : ℕ) → column_has a c ≡ column_has b c) → holes_among (column_has a) a.upto ≡ holes_among (column_has b) b.upto
same_holes a b same =
    sym (none_past (column_has a) a.upto b.upto (past_upto a))
    ∙ ap (λ (f : ℕ → Bool). holes_among f (a.upto + b.upto)) (λ t c. same c t)
    ∙ ap (holes_among (column_has b)) (add_comm a.upto b.upto)
    ∙ none_past (column_has b) b.upto a.upto (past_upto b)

-- ---- two values that know the same

module _ (a b : Normal) (same : AreSame (normal_known a) (normal_known b)) where
  -- an item that neither lists knows what all items do
  same_for_all : (v : Name) → vector_has a.all v ≡ vector_has b.all v
  same_for_all v =
      let free = unlisted_in_both (items_of a.listed) (items_of b.listed) in
      ap (λ (c : List AuthorColumn). vector_has c v) (sym (vector_in-free a.all a.listed free.0 free.1.0))
      ∙ same free.0 v
      ∙ ap (λ (c : List AuthorColumn). vector_has c v) (vector_in-free b.all b.listed free.0 free.1.1)

  same_sets : vector_has a.all ≡ vector_has b.all
  same_sets = λ t v. same_for_all v t

  same_known : normal_known a ≡ normal_known b
  same_known = λ t i v. same i v t

  same_versions : (items : Option (List Name)) (versions : Versions) → HasNormalVersions a items versions → HasNormalVersions b items versions
  same_versions None versions is = is ∙ same_sets
  same_versions (Some items) versions is = (is.0, λ all. is.1 (all ∙ sym same_sets), subst (λ (known : Pairs). HasPiece MAX_ITEMS known versions items) same_known is.2)

  same_told : (p : Part) → IsToldPart a p → IsToldPart b p
  same_told p is = record {
    own = is.own;
    normal = same_versions p.items is.own is.normal;
    tells = subst (λ (all : Versions). Tells all p.items is.own p.versions) same_sets is.tells;
  }

  same_goes : (v : Name) → goes_to_all a v ≡ goes_to_all b v
  same_goes v =
      ap (λ known. (v.counter == 1) || (known || nat_lt (holes_for_all a v.author) SPARED_HOLES)) (same_for_all (before v))
      ∙ ap (λ holes. (v.counter == 1) || (vector_has b.all (before v) || nat_lt holes SPARED_HOLES)) (same_holes (column_of a.all v.author) (column_of b.all v.author) (λ c. same_for_all (record { author = v.author; counter = c })))

  same_rule : goes_to_all a ≡ goes_to_all b
  same_rule = λ t v. same_goes v t

  same_spread : (item version : Name) (set : Versions) → spreads a item version set ≡ spreads b item version set
  same_spread item version set = ap (λ (goes : Name → Bool). (set item && (goes item && comes_next item version)) || goes version) same_rule

-- THE LAWS
pub items_by_meaning : (limit : ℕ) → IsByMeaning (items_form limit)
items_by_meaning limit = record {
  parts = λ a b same p is. same_versions a b same p.items p.versions is;
  learns = λ a b same item version set. refl;
  firsts = λ a b same item version set. refl;
}

pub sparing_by_meaning : IsByMeaning sparing_form
sparing_by_meaning = record {
  parts = λ a b same p is. same_told a b same p is;
  learns = λ a b same item version set. same_spread a b same item version set;
  firsts = λ a b same item version set. ap (λ spread. spread && goes_to_all a item) (same_spread a b same item version set) ∙ ap (λ goes. spreads b item version set && goes) (same_goes a b same item);
}
