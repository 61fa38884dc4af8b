-- what may be a part of a path
use Rattle.std.specs.Prelude.{◌≢◌, ◌<◌, ℕ, Bool, not, ◌==◌, ◌&&◌, nat_le, List, length, slice_index}
use Rattle.std.specs.List.{AllPass}

-- no control character and no `/`
abbrev pub is_path_byte : ℕ → Bool
is_path_byte b = nat_le 32 b && not (b == 127) && not (b == 47)

-- it names something inside its folder, and nothing that is hidden: there is something of it, no control character, no `/`
-- and no leading dot
pub record IsPathPart (text : List ℕ) : Type 0 where
  pub something : 0 < length text
  pub bytes : AllPass is_path_byte text
  pub shown : slice_index text 0 ≢ 46
