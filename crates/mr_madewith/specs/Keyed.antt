-- lists whose elements each have a name, in the order of the names
use Rattle.std.specs.Prelude.{not, if◌then◌else◌, Option, List, [], ◌∷◌, map, filter, find}
use Rattle.std.specs.List.Sorted.{IsStrictlySortedBy}
use Rattle.mr_version.specs.Name.{Name, name_cmp, name_eq}
pub use Rattle.mr_version.specs.Sets.{is_before}

module _ {X : Type 0} (name : X → Name) where
  -- each name stands before those after it
  abbrev pub AreRising : List X → Type 0
  AreRising xs = IsStrictlySortedBy name_cmp (map name xs)

  -- the first of that name
  abbrev pub named : Name → List X → Option X
  named v xs = find (λ x. name_eq (name x) v) xs

  -- all but those of that name
  abbrev pub without : Name → List X → List X
  without v xs = filter (λ x. not (name_eq (name x) v)) xs

  -- the list with x at its place
  abbrev pub inserted : X → List X → List X
  inserted x [] = x ∷ []
  inserted x (y ∷ ys) = if is_before (name y) (name x) then y ∷ inserted x ys else x ∷ y ∷ ys
