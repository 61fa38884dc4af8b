use Rattle.std.specs.Prelude.{◌≡◌, ◌<◌, ℕ, true, false}
use Rattle.mr_forms.specs.Sets.{Versions}
use Rattle.mr_forms.specs.Runs.{of_author}

-- the author's highest counter of the set
pub record IsLast (set : Versions) (author counter : ℕ) : Type 0 where
  pub is_in : of_author set author counter ≡ true
  pub above : (c : ℕ) → counter < c → of_author set author c ≡ false
