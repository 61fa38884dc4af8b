-- Which items the parts of a form list.
use Rattle.std.specs.Prelude.{◌≡◌, true, None, IfSome, All}
use Rattle.mr_version.specs.Name.{Name}
use Rattle.mr_forms.specs.Sets.{Versions}
use Rattle.mr_forms.specs.Known.{Pairs, Part, Form}

-- more is known for the item than for all items
abbrev pub HasMoreFor : Pairs → Name → Type 0
HasMoreFor pairs i = ¬ ((v : Name) → pairs i v ≡ true → (j : Name) → pairs j v ≡ true)

-- what a part of all items says is known for each item
abbrev pub SaysKnownForAll : {K : Type 0} → Form K → K → Type 0
SaysKnownForAll form k = (versions : Versions) → form.is_part k (record { items = None; versions = versions }) → (i v : Name) → versions v ≡ true → form.known k i v ≡ true

-- Where what is said for all items is known, a part lists an item only where more is known for it than for all items.
abbrev pub ListsMore : {K : Type 0} → Form K → Type 0
ListsMore {K} form = (k : K) → SaysKnownForAll form k → (p : Part) → form.is_part k p → IfSome p.items (λ items. All (HasMoreFor (form.known k)) items)
