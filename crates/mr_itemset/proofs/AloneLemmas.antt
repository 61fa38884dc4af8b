-- A version that is learned for its item alone, with a set below it: the version first, and then both.
use Rattle.std.proofs.Common.{ℕ, ◌≡◌, ◌≢◌, ◌||◌, ◌&&◌, Bool, false, IsErrOf, IsErrAnd, Result, Ok, Err, subst, inl, inr, ◌↔◌, ◌∙◌, arith}
use Rattle.mr_itemset.proofs.Names.{AreSame, FormFault, HasHoleyItem, HasValue, IsOnlyOverItems, IsOverHolesInTurn, IsOverItemsInTurn, Name, Pairs, Versions}
use Rattle.mr_itemset.proofs.Names.{err_from_is_err_and, items_form, name_eq, with_below, with_learned, with_learned_below}
use Rattle.mr_forms.specs.Sets.{both}
use Rattle.mr_forms.specs.declared.fault.FormFault.TheVariants as fault
use Rattle.mr_itemset.proofs.FoldedLemmas.{same_pairs}
use Rattle.mr_itemset.proofs.RefusalLemmas.{passed, refuses_otherwise}

split_or : (a s n o : Bool) → ((a && (s || n)) || o) ≡ ((a && s) || ((a && n) || o))
split_or a s n o = grind arith

-- a version and a set, for the item alone, as one set
abbrev pub together : Pairs → Name → Name → Versions → Pairs
together old item version set = with_below old item (both set (name_eq version))

module _ (old : Pairs) (item version : Name) (set : Versions) where
  alone_twice : together old item version set ≡ with_learned_below false old item version set
  alone_twice = same_pairs (together old item version set) (with_learned_below false old item version set) (λ i v. split_or (name_eq item i) (set v) (name_eq version v) (old i v))

  pub alone_known : {new : Pairs} → AreSame new (together old item version set) → AreSame new (with_learned_below false old item version set)
  alone_known same i v = same i v ∙ split_or (name_eq item i) (set v) (name_eq version v) (old i v)

  -- where the version by itself is not refused, the faults are those of both
  module _ {limit : ℕ} {t : Unit {0}} (holes : IsErrOf (Ok t) fault.TooManyHoles ↔ HasHoleyItem (with_learned false old item version)) (items : IsErrOf (Ok t) fault.TooManyItems ↔ IsOnlyOverItems (items_form limit) (with_learned false old item version)) where
    fits : HasValue (items_form limit) (with_learned false old item version)
    fits = (passed _ _ holes, λ many. passed _ _ items (many, passed _ _ holes))

    pub alone_holes : {P : Type 0} → P ↔ HasHoleyItem (together old item version set) → P ↔ IsOverHolesInTurn (items_form limit) (with_learned false old item version) (with_learned_below false old item version set)
    alone_holes by = grind (arith, alone_twice, fits)

    pub alone_items : {P : Type 0} → P ↔ IsOnlyOverItems (items_form limit) (together old item version set) → P ↔ IsOverItemsInTurn (items_form limit) (with_learned false old item version) (with_learned_below false old item version set)
    alone_items {P = P} by =
        let second : P ↔ IsOnlyOverItems (items_form limit) (with_learned_below false old item version set) = subst (λ (p : Pairs). P ↔ IsOnlyOverItems (items_form limit) p) alone_twice by in
        (λ p. inr (fits, second.0 p), λ over. elim over [ inl only ↦ absurd (fits.1 only.0) | inr both_of ↦ second.1 both_of.1 ])

module _ {limit : ℕ} {first second : Pairs} where
  refused : (e : FormFault) (r : Result (Unit {0}) FormFault) → r ≡ Err e → r ≢ Err fault.OutOfMemory → IsErrOf r fault.TooManyHoles ↔ HasHoleyItem first → IsErrOf r fault.TooManyItems ↔ IsOnlyOverItems (items_form limit) first → IsErrOf {T = Unit {0}} (Err e) fault.TooManyItems ↔ IsOverItemsInTurn (items_form limit) first second
  refused e r is memory holes items = grind (arith, refuses_otherwise)

  -- where it is refused, so are both
  pub alone_refused : (e : FormFault) (r result : Result (Unit {0}) FormFault) → IsErrAnd result (λ y. y ≡ e) → r ≡ Err e → r ≢ Err fault.OutOfMemory → IsErrOf r fault.TooManyHoles ↔ HasHoleyItem first → IsErrOf r fault.TooManyItems ↔ IsOnlyOverItems (items_form limit) first → IsErrOf result fault.TooManyItems ↔ IsOverItemsInTurn (items_form limit) first second
  alone_refused e r result passed_on is memory holes items = let p = err_from_is_err_and result passed_on in rw (p.1, p.2) (refused e r is memory holes items)
