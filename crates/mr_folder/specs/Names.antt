-- the names of the store's files, and the digests that they write
use Rattle.std.specs.Prelude.{◌≡◌, ℕ, ◌↔◌, List, IsTrue, is_some, length, Contains}
use Rattle.hex.specs.Hex.{IsBytes, encode_lower}
use Rattle.mr_folder.specs.Inside.{stored_path}
use Rattle.mr_folder.specs.Tree.{Tree}

-- 32 bytes, as SHA-256 has
pub record IsDigest (digest : List ℕ) : Type 0 where
  pub bytes : IsBytes digest
  pub long : length digest ≡ 32

-- names that tell which digests the store has a file of
abbrev pub TellsDigests : Tree → List (List ℕ) → Type 0
TellsDigests tree names = (digest : List ℕ) → IsDigest digest → Contains names (encode_lower digest) ↔ IsTrue (is_some (tree (stored_path digest)))
