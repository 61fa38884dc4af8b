-- fragments of one item, as they are built
use Rattle.std.specs.Prelude.{◌≡◌, [], ◌∷◌}
use Rattle.mr_version.specs.Name.{Name}
use Rattle.mr_forms.specs.declared.fragment.ItemSet.{ItemSet}
use Rattle.mr_forms.specs.declared.fragment.ItemSet.TheVariants.{All as AllItems, Listed}

-- the items are this one alone
abbrev pub IsOnly : Name → ItemSet → Type 0
IsOnly i AllItems = ⊥
IsOnly i (Listed items) = items.items ≡ i ∷ []
