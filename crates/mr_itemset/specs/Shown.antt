use Rattle.std.specs.Prelude.{ℕ, List, [], ◌∷◌, ◌++◌, Option, Some, None, codes, map}
use Rattle.std.specs.List.{join_by}
use Rattle.mr_version.specs.Name.{Name, name_text}
use Rattle.mr_forms.specs.declared.fragment.TheConstants.{MAX_ITEMS}
use Rattle.mr_forms.specs.Covered.{listed_items}
use Rattle.mr_concise.specs.declared.vector.AuthorColumn.{AuthorColumn}
use Rattle.mr_concise.specs.Text.{vector_text}
use Rattle.mr_concise.specs.Fragments.{ConciseFragment}
use Rattle.mr_itemset.specs.Normal.{Normal}
use Rattle.mr_itemset.specs.Groups.{Alike, all_grouped}

-- a fragment without where it lies: its items, or none where they are all items; and its vector
pub record Shown : Type 0 where
  pub items : Option (List Name)
  pub vector : List AuthorColumn

abbrev pub shown : ConciseFragment → Shown
shown f = record { items = listed_items f.items; vector = f.vector }

abbrev pub shown_group : Alike → Shown
shown_group g = record { items = Some g.items; vector = g.vector }

-- the fragments of a knowledge: that of all items, and then those of each vector that listed items have, with as many
-- items in each as a fragment lists, and the rest in the last
abbrev pub fragments_in : Normal → List Shown
fragments_in k = (record { items = None; vector = k.all }) ∷ map shown_group (all_grouped MAX_ITEMS [] k.listed)

-- all, or the items with commas between them
abbrev pub shown_items : Option (List Name) → List ℕ
shown_items None = codes "all"
shown_items (Some items) = join_by name_text (44 ∷ []) items

-- the items, a space, and the vector
abbrev pub shown_text : Shown → List ℕ
shown_text s = shown_items s.items ++ 32 ∷ vector_text s.vector

-- the text of a knowledge: its fragments with a semicolon and a space between them
abbrev pub normal_text : Normal → List ℕ
normal_text k = join_by shown_text (59 ∷ 32 ∷ []) (fragments_in k)
