-- the bytes of a journal, as they are read
use Rattle.std.specs.Prelude.{◌≡◌, ℕ, List, ◌∷◌, ◌++◌, length}
use Rattle.sha2.specs.Sha256.{sha256}
use Rattle.mr_journal.specs.Format.{u64, AreBatches}

-- what was read of a file: the entries of its batches, and the place of the closed gate behind them
pub record IsRead (entries : List (List ℕ)) (place : ℕ) (file : List ℕ) : Type 0 where
  pub front : List ℕ
  pub left : List ℕ
  pub batches : AreBatches entries front
  pub file_is : file ≡ front ++ (0 ∷ left)
  pub place_is : place ≡ length front

-- bytes that begin with an open gate, and with the length and the digest of what stands behind
abbrev pub framed : List ℕ → List ℕ → List ℕ
framed bytes left = 1 ∷ (u64 (length bytes) ++ (sha256 bytes ++ (bytes ++ left)))
