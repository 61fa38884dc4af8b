use Rattle.std.specs.Prelude.{◌<◌, ◌⊎◌, ℕ, Contains, length}
use Rattle.mr_version.specs.Name.{Name}
use Rattle.mr_forms.specs.Sets.{Versions, Covers, both}
use Rattle.mr_concise.specs.Vector.{vector_has}
use Rattle.mr_itemset.specs.declared.knowledge.Listed.{Listed}
use Rattle.mr_itemset.specs.Normal.{Normal}
use Rattle.mr_itemset.specs.inner.Placed.{Lists}

-- a listed item of which no more is known than of all, once all items have the learned versions
pub record Drops (learned : Versions) (k : Normal) : Type 0 where
  pub dropped : Listed
  pub is_in : Contains k.listed dropped
  pub covers : Covers (both learned (vector_has k.all)) (vector_has dropped.vector)

-- Once all items have the learned versions, there is room for the item's: one more item may be listed, where no more than
-- so many may be; or the item is
-- listed already, or all items have its versions, or an item is listed no longer.
abbrev pub HasRoomWith : ℕ → Normal → Versions → Name → Versions → Type 0
HasRoomWith limit k learned item set = (length k.listed < limit) ⊎ (Lists k item ⊎ (Covers (both learned (vector_has k.all)) set ⊎ Drops learned k))
