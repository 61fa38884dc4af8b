use Rattle.std.specs.Prelude.{◌≡◌, ◌+◌, ℕ, ◌||◌, ◌&&◌, List, length}
use Rattle.std.specs.List.{list_any, IsDistinct}
use Rattle.mr_version.specs.Name.{Name, name_eq}
use Rattle.mr_forms.specs.Sets.{Versions}
use Rattle.mr_forms.specs.Known.{Pairs}
use Rattle.mr_itemset.specs.Normal.{Normal}
use Rattle.mr_itemset.specs.inner.Normal.{items_of}

-- the pairs with all of a set for each of the items
abbrev pub with_each : Pairs → List Name → Versions → Pairs
with_each old items set = λ i v. (list_any (λ item. name_eq item i) items && set v) || old i v

-- the listed items and these together, each once: so many more than are listed
pub record CountsNew (k : Normal) (items : List Name) (count : ℕ) : Type 0 where
  pub together : List Name
  pub distinct : IsDistinct name_eq together
  pub members : (q : Name) → list_any (name_eq q) together ≡ (list_any (name_eq q) items || list_any (name_eq q) (items_of k.listed))
  pub many : length together ≡ length k.listed + count
