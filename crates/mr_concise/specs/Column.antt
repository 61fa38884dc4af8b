use Rattle.std.specs.Prelude.{◌≤◌, ◌+◌, ◌-◌, ℕ, Bool, not, nat_lt, nat_le, ◌&&◌, if◌then◌else◌, List, [], ◌∷◌, ◌++◌, length, refl}
use Rattle.std.specs.List.{list_any}
use Rattle.std.specs.Coded.{Coded, code_by, coded×, coded_ℕ, coded_list}
use Rattle.mr_version.specs.declared.version.TheConstants.{MAX_COUNTER}
use Rattle.mr_concise.specs.declared.column.Hole.{Hole}
use Rattle.mr_concise.specs.declared.column.TheConstants.{MAX_HOLES}
use Rattle.mr_concise.specs.Edges.{IsRising}

-- whether c is in the hole
abbrev pub hole_has : Hole → ℕ → Bool
hole_has hole c = nat_le hole.first c && nat_le c hole.last

-- a column as contracts see it: its bound and its holes
pub record Extent : Type 0 where
  pub upto : ℕ
  pub holes : List Hole

abbrev pub hole_code : Coded Hole
hole_code = code_by (ℕ × ℕ) (coded× coded_ℕ coded_ℕ) (λ h. (h.first, h.last)) (λ p. record { first = p.0; last = p.1 }) (λ _. refl)

abbrev pub extent_code : Coded Extent
extent_code = code_by (ℕ × List Hole) (coded× coded_ℕ (coded_list hole_code)) (λ e. (e.upto, e.holes)) (λ p. record { upto = p.0; holes = p.1 }) (λ _. refl)

-- the counters 1 to upto that are in no hole
abbrev pub column_has : Extent → ℕ → Bool
column_has column c = (nat_le 1 c && nat_le c column.upto) && not (list_any (λ hole. hole_has hole c) column.holes)

-- where the holes begin and end
abbrev pub hole_edges : List Hole → List ℕ
hole_edges [] = []
hole_edges (hole ∷ holes) = hole.first ∷ (hole.last + 1) ∷ hole_edges holes

-- where a set that has 0 and what the column has begins and ends
abbrev pub edges : Extent → List ℕ
edges column = hole_edges column.holes ++ (column.upto + 1) ∷ []

-- Holes rise, from 1 on; each has its first at most its last; a covered counter stands between two of them
-- and above the last one, and it is the bound. The bound is at most MAX_COUNTER, and there are at most MAX_HOLES holes.
pub record IsColumn (column : Extent) : Type 0 where
  pub apart : IsRising 0 (edges column)
  pub in_range : column.upto ≤ MAX_COUNTER
  pub few : length column.holes ≤ MAX_HOLES

-- the column with nothing in it
abbrev pub empty_column : Extent
empty_column = record { upto = 0; holes = [] }

-- the hole from first to last, or none
abbrev pub gap : ℕ → ℕ → List Hole
gap first last = if nat_le first last then (record { first = first; last = last }) ∷ [] else []

-- the holes without k
abbrev pub filled : ℕ → List Hole → List Hole
filled k [] = []
filled k (hole ∷ holes) =
    if nat_lt k hole.first then hole ∷ holes else (if nat_lt hole.last k then hole ∷ filled k holes else gap hole.first (k - 1) ++ (gap (k + 1) hole.last ++ holes))

-- the column with one counter more
abbrev pub with_counter : Extent → ℕ → Extent
with_counter column k =
    if nat_lt column.upto k then (record { upto = k; holes = column.holes ++ gap (column.upto + 1) (k - 1) }) else (record { upto = column.upto; holes = filled k column.holes })
