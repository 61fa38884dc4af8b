-- what is known after fragments are merged, one after the other
use Rattle.std.specs.Prelude.{◌⊎◌, List, [], ◌∷◌}
use Rattle.mr_forms.specs.declared.fragment.Fragment.{Fragment}
use Rattle.mr_forms.specs.Sets.{Versions}
use Rattle.mr_forms.specs.Known.{Pairs, Form, HasValue, IsOnlyOverItems, with_pairs}
use Rattle.mr_forms.specs.Covered.{covered}

-- what is known after each of the fragments is merged
abbrev pub after_each : {V : Type 0} → (V → Versions) → Pairs → List (Fragment V) → List Pairs
after_each has known [] = []
after_each has known (f ∷ fs) = with_pairs known (covered has f) ∷ after_each has (with_pairs known (covered has f)) fs

module _ {K : Type 0} where
  -- the form has a value for the first of these
  abbrev pub FirstHasValue : Form K → List Pairs → Type 0
  FirstHasValue form [] = Unit {0}
  FirstHasValue form (p ∷ ps) = HasValue form p

  -- of results in turn the first without a value has too many holes
  abbrev pub AreOverHolesInTurn : Form K → List Pairs → Type 0
  AreOverHolesInTurn form [] = ⊥
  AreOverHolesInTurn form (p ∷ ps) = form.has_too_many_holes p ⊎ (HasValue form p × AreOverHolesInTurn form ps)

  -- of results in turn the first without a value lists too many items, and has no vector with too many holes
  abbrev pub AreOverItemsInTurn : Form K → List Pairs → Type 0
  AreOverItemsInTurn form [] = ⊥
  AreOverItemsInTurn form (p ∷ ps) = IsOnlyOverItems form p ⊎ (HasValue form p × AreOverItemsInTurn form ps)
