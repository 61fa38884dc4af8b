-- The laws of plain knowledge: it lists an item only where more is known for it than for all items, and it is told apart by
-- what it knows alone.
use Rattle.std.specs.Prelude.{◌≡◌, Bool, true, false, ◌||◌, ◌&&◌, not, List, [], ◌∷◌, Option, Some, None, IfSome, All, map, refl}
use Rattle.std.specs.declared.cmp.Ordering.{Ordering}
use Rattle.std.specs.declared.cmp.Ordering.TheVariants.{Less, Equal, Greater}
use Rattle.std.specs.Ordering.{is_eq, ordering_then}
use Rattle.std.proofs.Common.{ap, sym, subst, ◌∙◌}
use Rattle.std.proofs.lemmas.Bool.{false≢true, and_parts, not-true, or_parts}
use Rattle.std.proofs.lemmas.List.Elements.{All-nil, All-cons}
use Rattle.mr_version.specs.Name.{Name, name_cmp, name_eq}
use Rattle.mr_forms.specs.declared.plain_knowledge.Pair.{Pair}
use Rattle.mr_forms.specs.Sets.{Versions, is_listed}
use Rattle.mr_forms.specs.Listing.{HasMoreFor, ListsMore}
use Rattle.mr_forms.specs.Known.{AreSame}
use Rattle.mr_forms.specs.ByMeaning.{IsByMeaning}
use Rattle.mr_forms.specs.inner.Fresh.{unlisted_item, unlisted_in_both}
use Rattle.mr_forms.specs.PlainPair.{PlainKnown, pair, has_pair}
use Rattle.mr_forms.specs.Plain.{HasPlainVersions, beyond_all, plain_known, plain_form}

is_eq-then : (a b : Ordering) → is_eq (ordering_then a b) ≡ (is_eq a && is_eq b)
is_eq-then Less b = refl
is_eq-then Equal b = refl
is_eq-then Greater b = refl

-- an item that no pair is of has no pair
no_pair : (pairs : List Pair) (i v : Name) → is_listed (map (λ p. p.item) pairs) i ≡ false → has_pair pairs (pair i v) ≡ false
no_pair [] i v free = refl
no_pair (p ∷ pairs) i v free =
    let apart = or_parts (name_eq i p.item) (is_listed (map (λ q. q.item) pairs) i) free in
    ap (λ b. b || has_pair pairs (pair i v)) (is_eq-then (name_cmp i p.item) (name_cmp v p.version) ∙ ap (λ b. b && name_eq v p.version) apart.0) ∙ no_pair pairs i v apart.1

-- a version that an item has beyond all items is not known for an item that no pair is of
has_more : (k : PlainKnown) (i v : Name) → beyond_all k i v ≡ true → HasMoreFor (plain_known k) i
has_more k i v beyond for_all =
    let both = and_parts (has_pair k.pairs (pair i v)) (not (is_listed k.for_all v)) beyond in
    let apart : is_listed k.for_all v ≡ false = not-true (is_listed k.for_all v) both.1 in
    let free = unlisted_item (map (λ p. p.item) k.pairs) in
    let known : plain_known k i v ≡ true = ap (λ b. b || has_pair k.pairs (pair i v)) apart ∙ both.0 in
    let unknown : plain_known k free.0 v ≡ false = ap (λ b. b || has_pair k.pairs (pair free.0 v)) apart ∙ no_pair k.pairs free.0 v free.1 in
    false≢true (sym unknown ∙ for_all v known free.0)

lists : (k : PlainKnown) (items : Option (List Name)) (versions : Versions) (v : Name) → versions v ≡ true → HasPlainVersions k items versions → IfSome items (λ listed. All (HasMoreFor (plain_known k)) listed)
lists k None versions v some is = tt
lists k (Some []) versions v some is = absurd is
lists k (Some (i ∷ rest)) versions v some is =
    subst (λ (r : List Name). All (HasMoreFor (plain_known k)) (i ∷ r)) (sym is.0)
    (All-cons (HasMoreFor (plain_known k)) i [] (has_more k i v (ap (λ (t : Versions). t v) (sym is.1) ∙ some)) (All-nil (HasMoreFor (plain_known k))))

-- THE LAW: whatever is said for all items
pub plain_lists_more : ListsMore plain_form
plain_lists_more k said p is = lists k p.items p.versions is.0.0 is.0.1 is.1

-- ---- told apart by what is known

or_false : (b : Bool) → (b || false) ≡ b
or_false true = refl
or_false false = refl

-- what a pair adds to what all items know
beyond : (all one : Bool) → ((all || one) && not all) ≡ (one && not all)
beyond true true = refl
beyond true false = refl
beyond false one = refl

module _ (a b : PlainKnown) (same : AreSame (plain_known a) (plain_known b)) where
  -- an item that no pair of either is of knows what all items do
  same_for_all : (v : Name) → is_listed a.for_all v ≡ is_listed b.for_all v
  same_for_all v =
      let free = unlisted_in_both (map (λ p. p.item) a.pairs) (map (λ p. p.item) b.pairs) in
      let mine : plain_known a free.0 v ≡ is_listed a.for_all v = ap (λ c. is_listed a.for_all v || c) (no_pair a.pairs free.0 v free.1.0) ∙ or_false (is_listed a.for_all v) in
      let theirs : plain_known b free.0 v ≡ is_listed b.for_all v = ap (λ c. is_listed b.for_all v || c) (no_pair b.pairs free.0 v free.1.1) ∙ or_false (is_listed b.for_all v) in
      sym mine ∙ same free.0 v ∙ theirs

  same_beyond : (i v : Name) → beyond_all a i v ≡ beyond_all b i v
  same_beyond i v =
      sym (beyond (is_listed a.for_all v) (has_pair a.pairs (pair i v)))
      ∙ ap (λ c. c && not (is_listed a.for_all v)) (same i v)
      ∙ ap (λ c. plain_known b i v && not c) (same_for_all v)
      ∙ beyond (is_listed b.for_all v) (has_pair b.pairs (pair i v))

  same_versions : (items : Option (List Name)) (versions : Versions) → HasPlainVersions a items versions → HasPlainVersions b items versions
  same_versions None versions is = is ∙ (λ t v. same_for_all v t)
  same_versions (Some []) versions is = absurd is
  same_versions (Some (i ∷ rest)) versions is = (is.0, is.1 ∙ (λ t v. same_beyond i v t))

-- THE LAW: some item is in no pair of either, so what all items know is decided, and with it what each knows beyond it
pub plain_by_meaning : IsByMeaning plain_form
plain_by_meaning = record {
  parts = λ a b same p is. (is.0, same_versions a b same p.items p.versions is.1);
  learns = λ a b same item version set. refl;
  firsts = λ a b same item version set. refl;
}
