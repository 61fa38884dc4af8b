-- what is known, as fragments
use Rattle.std.specs.Prelude.{List, map, All}
use Rattle.mr_forms.specs.declared.fragment.Fragment.{Fragment}
use Rattle.mr_forms.specs.Sets.{Versions}
use Rattle.mr_forms.specs.Known.{Pairs, AreSame, Part}
use Rattle.mr_forms.specs.Covered.{HasItems, all_covered}
use Rattle.mr_concise.specs.Vector.{HasTooManyHoles}
use Rattle.mr_concise.specs.Fragments.{ConciseFragment}
use Rattle.mr_wire.specs.Values.{piece_of}
use Rattle.mr_replica.specs.Pieces.{ArePiecesOf}

-- the fragments have just what is known, and none of them lists no item
pub record HaveKnown {V : Type 0} (has : V → Versions) (known : Pairs) (fragments : List (Fragment V)) : Type 0 where
  pub covered : AreSame known (all_covered has fragments)
  pub items : All (λ fragment. HasItems fragment.items) fragments

-- the fragments are those of the parts, in the parts' order
abbrev pub AreFragmentsOf : (is_part : Part → Type 0) → List ConciseFragment → Type 0
AreFragmentsOf is_part fragments = ArePiecesOf is_part (map piece_of fragments)

-- a part has no vector, since a column of its versions has more than 4,096 holes
abbrev pub HasHoleyPart : (Part → Type 0) → Type 0
HasHoleyPart is_part = (p : Part) × is_part p × HasTooManyHoles p.versions
