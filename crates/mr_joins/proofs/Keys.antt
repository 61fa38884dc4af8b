-- keys: their order is total, and keys that tie are one
use Rattle.std.proofs.Common.{◌≡◌, ℕ, true, false, cond, ◌==◌, List, refl, sym, ap, ◌∙◌}
use Rattle.std.specs.Cmp.{IsTotalOrder, tied_itself}
use Rattle.std.specs.Ordering.{nat_cmp, is_eq, ordering_reverse}
use Rattle.std.specs.declared.cmp.Ordering.{Ordering}
use Rattle.std.specs.declared.cmp.Ordering.TheVariants.{Less, Equal, Greater}
use Rattle.std.proofs.lemmas.Cmp.{then_total, on_total}
use Rattle.std.proofs.lemmas.Map.Lookups.{CmpEqualImpliesEq, exact_pairs, exact_unsigned, exact_bytes}
use Rattle.mr_mail.specs.Label.{text_cmp}
use Rattle.mr_mail.specs.declared.flags.Flag.TheVariants.{Seen, Answered, Flagged, Draft, Deleted}
use Rattle.mr_version.specs.Name.{name_cmp}
use Rattle.mr_version.specs.Order.{exact_names, names_total}
use Rattle.mr_joins.specs.declared.element.Element.{Element}
use Rattle.mr_joins.specs.declared.element.Element.TheVariants as element
use Rattle.mr_joins.specs.declared.mark.Mark.{Mark}
use Rattle.mr_joins.specs.Element.{element_place, element_text, element_cmp}
use Rattle.mr_joins.specs.Order.{elements_total}
use Rattle.mr_joins.specs.Value.{Key, key_cmp, key_of, mark_cmp, is_of}

-- the element at a place, of a text
element_at : ℕ × List ℕ → Element
element_at p =
    cond (p.0 == 0) (element.Flag Draft) (cond (p.0 == 1) (element.Flag Flagged) (cond (p.0 == 2) (element.Flag Answered) (cond (p.0 == 3) (element.Flag Seen)
    (cond (p.0 == 4) (element.Flag Deleted) (cond (p.0 == 5) (element.Other p.1) (element.Folder p.1))))))

element_back : (e : Element) → element_at (element_place e, element_text e) ≡ e
unfolding element_at
element_back (element.Flag Seen) = refl
element_back (element.Flag Answered) = refl
element_back (element.Flag Flagged) = refl
element_back (element.Flag Draft) = refl
element_back (element.Flag Deleted) = refl
element_back (element.Other word) = refl
element_back (element.Folder label) = refl

-- elements that compare alike are one
pub exact_elements : CmpEqualImpliesEq element_cmp
exact_elements a b h =
    sym (element_back a)
    ∙ ap element_at (exact_pairs nat_cmp text_cmp exact_unsigned exact_bytes (element_place a, element_text a) (element_place b, element_text b) h)
    ∙ element_back b

-- keys that compare alike are one
pub exact_keys : CmpEqualImpliesEq key_cmp
exact_keys a b h = exact_pairs name_cmp element_cmp exact_names exact_elements a b h

-- the order of keys is total
pub keys_total : IsTotalOrder key_cmp
keys_total = then_total (on_total (λ (k : Key). k.0) names_total) (on_total (λ (k : Key). k.1) elements_total)

-- and so is that of marks
pub marks_total : IsTotalOrder mark_cmp
marks_total = on_total key_of keys_total

pub less_not_equal : Less ≡ Equal → ⊥
less_not_equal h = cc

pub less_not_greater : Less ≡ Greater → ⊥
less_not_greater h = cc

pub tie : (o : Ordering) → is_eq o ≡ true → o ≡ Equal
tie Less h = cc
tie Equal h = refl
tie Greater h = cc

-- a key is the one of a mark that is of it
pub key_is : (m : Mark) (key : Key) → is_of m key ≡ true → key ≡ key_of m
key_is m key h = exact_keys key (key_of m) (tie (key_cmp key (key_of m)) h)

-- a mark is of its own key
pub is_of-own : (m : Mark) → is_of m (key_of m) ≡ true
is_of-own m = ap is_eq (tied_itself keys_total (key_of m))

-- the order turned
pub turned : (a b : Mark) → mark_cmp a b ≡ Greater → mark_cmp b a ≡ Less
turned a b e = marks_total.antisymm b a ∙ ap ordering_reverse e

-- a mark is not of the key of one that it isn't like
pub not_of : (a b : Mark) → mark_cmp a b ≡ Less → is_of b (key_of a) ≡ false
not_of a b e = ap is_eq e

pub not_of-turned : (a b : Mark) → mark_cmp a b ≡ Greater → is_of b (key_of a) ≡ false
not_of-turned a b e = ap is_eq e
