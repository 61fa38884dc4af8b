use Rattle.std.specs.Prelude.{◌≡◌, ℕ, true, false}
use Rattle.mr_version.specs.Name.{Name}
use Rattle.mr_forms.specs.Sets.{Versions}
use Rattle.mr_forms.specs.Runs.{of_author}

-- what the other has of the author the set has
abbrev pub CoversAuthor : Versions → Versions → ℕ → Type 0
CoversAuthor set other author = (c : ℕ) → of_author other author c ≡ true → of_author set author c ≡ true

-- the set lacks a version that the other has
pub record Lacks (set other : Versions) : Type 0 where
  pub version : Name
  pub is_out : set version ≡ false
  pub is_in : other version ≡ true
