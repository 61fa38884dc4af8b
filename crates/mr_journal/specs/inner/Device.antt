-- a file while a batch is written into it
use Rattle.std.specs.Prelude.{◌≡◌, ℕ, ◌≤◌, List, ◌∷◌, ◌++◌, length}

-- a file that had a closed gate behind this front, and behind the gate has at most so many bytes
pub record IsStaged (front : List ℕ) (most : ℕ) (file : List ℕ) : Type 0 where
  pub tail : List ℕ
  pub file_is : file ≡ front ++ (0 ∷ tail)
  pub few : length tail ≤ most
