-- the fields of a hello as they are read
use Rattle.std.specs.Prelude.{◌≡◌, ◌<◌, ◌^◌, ℕ, List, [], ◌∷◌, ◌++◌, length}
use Rattle.std.specs.Int.{w32, to_be_bytes}

-- the bytes are these fields, each as it is spelled, one behind another
pub record AreFields (bytes : List ℕ) (format id : ℕ) (birth knows tip : List ℕ) (issued known waiting keeps_all : ℕ) : Type 0 where
  pub whole : bytes ≡ format ∷ id ∷ (birth ++ (knows ++ (tip ++ (to_be_bytes w32 issued ++ (to_be_bytes w32 known ++ (waiting ∷ keeps_all ∷ []))))))
  pub birth_long : length birth ≡ 16
  pub knows_long : length knows ≡ 12
  pub tip_long : length tip ≡ 4
  pub issued_in : issued < 2 ^ 32
  pub known_in : known < 2 ^ 32
