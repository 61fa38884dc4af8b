-- listed items as they are grouped, and the groups of what is told of them
use Rattle.std.specs.Prelude.{◌≡◌, ◌≤◌, ◌⊎◌, List, [], length}
use Rattle.mr_concise.specs.declared.vector.AuthorColumn.{AuthorColumn}
use Rattle.mr_concise.specs.Vector.{vector_has}
use Rattle.mr_forms.specs.Sets.{Covers}
use Rattle.mr_forms.specs.declared.fragment.TheConstants.{MAX_ITEMS}
use Rattle.mr_itemset.specs.declared.knowledge.Listed.{Listed}
use Rattle.mr_itemset.specs.declared.groups.Grouping.{Grouping}
use Rattle.mr_itemset.specs.Groups.{Alike, all_grouped, grouped}
use Rattle.mr_itemset.specs.inner.Groups.{AreNoted, FillInTurn}
use Rattle.mr_itemset.specs.inner.Lacking.{Lacks}
use Rattle.mr_itemset.specs.inner.Told.{AreToldItems, IsToldItem}

-- these are the groups so far, and where each of them stands is noted
pub record IsGrouping (gs : List Alike) (grouping : Grouping) : Type 0 where
  pub groups : grouping.groups.items ≡ gs
  pub in_turn : FillInTurn MAX_ITEMS gs
  pub noted : AreNoted gs grouping.slots.items grouping.others
  pub some : 1 ≤ length grouping.slots.items

-- all items have what the item has, and nothing is told; or what is told of it is in its group
abbrev pub GroupsTold : List AuthorColumn → Listed → Grouping → Grouping → Type 0
GroupsTold all x old new =
    (Covers (vector_has all) (vector_has x.vector) × (new ≡ old))
    ⊎ (Lacks (vector_has all) (vector_has x.vector) × ((told : Listed) × (IsToldItem all x told × IsGrouping (grouped MAX_ITEMS old.groups.items told) new)))

-- the groups of what is told of these items
abbrev pub AreGroupsTold : List AuthorColumn → List Listed → List Alike → Type 0
AreGroupsTold all xs gs = (told : List Listed) × (AreToldItems all xs told × (gs ≡ all_grouped MAX_ITEMS [] told))
