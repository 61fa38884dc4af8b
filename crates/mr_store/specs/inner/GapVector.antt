-- revisions beside one another, with a gap at their front
use Rattle.std.specs.Prelude.{◌-◌, ℕ, List, drop, vec_len, vec_capacity}
use Rattle.std.specs.declared.vec.Vec.{Vec}
use Rattle.mr_madewith.specs.Revision.{Rev}

-- the revisions, and for how many more there is room
pub record GapParts : Type 0 where
  pub items : List Rev
  pub spare : ℕ

-- what stands behind the gap
abbrev pub behind_gap : {Y : Type 0} → Vec Rev Y → (gap : ℕ) → GapParts
behind_gap slots gap = record { items = drop gap slots.items; spare = vec_capacity slots - vec_len slots }
