use Rattle.std.specs.Prelude.{◌≡◌, ◌<◌, ◌⊎◌, ℕ, true, if◌then◌else◌, List, [], ◌∷◌, length}
use Rattle.std.specs.List.{list_any}
use Rattle.std.specs.Ordering.{is_lt}
use Rattle.mr_version.specs.Name.{Name, name_cmp, name_eq}
use Rattle.mr_forms.specs.Sets.{Versions, Covers}
use Rattle.mr_concise.specs.Vector.{vector_has}
use Rattle.mr_itemset.specs.declared.knowledge.Listed.{Listed}
use Rattle.mr_itemset.specs.Normal.{Normal}
use Rattle.mr_itemset.specs.inner.Normal.{items_of}

-- the listed items with this one in its place
abbrev pub placed : Listed → List Listed → List Listed
placed new [] = new ∷ []
placed new (x ∷ xs) =
    if is_lt (name_cmp x.item new.item) then x ∷ placed new xs else (if name_eq x.item new.item then new ∷ xs else new ∷ (x ∷ xs))

-- the item is listed
abbrev pub Lists : Normal → Name → Type 0
Lists k item = list_any (name_eq item) (items_of k.listed) ≡ true

-- One more item may be listed, where no more than so many may be; or the item is listed already, or all items have the
-- versions.
abbrev pub HasRoom : ℕ → Normal → Name → Versions → Type 0
HasRoom limit k item set = (length k.listed < limit) ⊎ (Lists k item ⊎ Covers (vector_has k.all) set)
