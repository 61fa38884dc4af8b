-- tokens as they are read, and runs as they are written
use Rattle.std.specs.Prelude.{◌≡◌, ◌≤◌, ◌<◌, ◌+◌, ◌*◌, ◌-◌, ◌⊎◌, ℕ, min, List, [], ◌∷◌, ◌++◌, length, get_or, take, drop, Some, None, Result, Ok, Err}
use Rattle.std.specs.List.{flat_map}
use Rattle.mr_talk.specs.Packed as packed
use Rattle.mr_talk.specs.Packed.{Spelled, IsToken, spell, token_bytes, two_digits}
use Rattle.mr_talk.specs.declared.token.Token.{Token}
use Rattle.mr_talk.specs.declared.token.Token.TheVariants.{End, Copy, Literal, Digits, Move, Long}
use Rattle.mr_talk.specs.declared.packing.Run.{Run}
use Rattle.mr_talk.specs.declared.packing.Run.TheVariants as run
use Rattle.mr_talk.specs.declared.packed.PackedFault.{PackedFault}
use Rattle.mr_talk.specs.declared.packed.PackedFault.TheVariants.{OutOfMemory, BadToken, TooLong}

-- what a token that was read stands for
abbrev pub meaning : Token → packed.Token
meaning End = packed.End
meaning (Copy n) = packed.Copy n
meaning (Literal bytes) = packed.Literal bytes.now
meaning (Digits bytes) = packed.Digits bytes.now
meaning (Move n) = packed.Move n
meaning (Long bytes) = packed.Long bytes.now

-- the bytes begin with this token, which takes so many of them
pub record BeginsWith (bytes : List ℕ) (t : packed.Token) (used : ℕ) : Type 0 where
  pub is : IsToken t
  pub size : used ≡ length (token_bytes t)
  pub whole : bytes ≡ token_bytes t ++ drop used bytes

abbrev pub IsNoToken : List ℕ → Type 0
IsNoToken bytes = (t : packed.Token) (left : List ℕ) → IsToken t → bytes ≡ token_bytes t ++ left → ⊥

-- a token is taken, or why it isn't
abbrev pub Takes : packed.Token → Spelled → Result (Unit {0}) PackedFault → Spelled → Type 0
Takes t old (Ok _) new = spell t old ≡ Some new
Takes t old (Err OutOfMemory) new = Unit {0}
Takes t old (Err BadToken) new = spell t old ≡ None
Takes t old (Err TooLong) new = ⊥

-- a digit of 0 to 9 or of a to f
abbrev pub IsDigit : ℕ → Type 0
IsDigit byte = ((48 ≤ byte) × (byte ≤ 57)) ⊎ ((97 ≤ byte) × (byte ≤ 102))

-- the first so many are digits
abbrev pub AreDigits : ℕ → List ℕ → Type 0
AreDigits n text = (i : ℕ) → i < n → IsDigit (get_or text i 0)

-- two digits for each byte, in the place of so many bytes of text
pub record ArePairs (n : ℕ) (text bytes : List ℕ) : Type 0 where
  pub spelled : flat_map two_digits bytes ≡ take (2 * n) text
  pub many : length bytes ≡ n

-- so many bytes that a run is about are there
abbrev pub Fits : (before : List ℕ) (place : ℕ) (rest : List ℕ) → Run → Type 0
Fits before place rest (run.Copy n) = (0 < n) × (n ≤ 63) × (place + n ≤ length before) × (n ≤ length rest) × (take n (drop place before) ≡ take n rest)
Fits before place rest (run.Literal n) = (0 < n) × (n ≤ 64) × (n ≤ length rest)
Fits before place rest (run.Digits n) = (0 < n) × (n ≤ 64) × (2 * n ≤ length rest) × AreDigits (2 * n) rest
Fits before place rest (run.Move n) = n ≤ 62

-- the token that a run is written as
abbrev pub IsRunOf : Run → List ℕ → packed.Token → Type 0
IsRunOf (run.Copy n) rest t = t ≡ packed.Copy n
IsRunOf (run.Literal n) rest t = t ≡ packed.Literal (take n rest)
IsRunOf (run.Digits n) rest t = (bytes : List ℕ) × ArePairs n rest bytes × (t ≡ packed.Digits bytes)
IsRunOf (run.Move n) rest t = t ≡ packed.Move n

-- a run is written behind what is packed
pub record Writes (r : Run) (rest old new : List ℕ) : Type 0 where
  pub token : packed.Token
  pub is : IsToken token
  pub of_run : IsRunOf r rest token
  pub behind : new ≡ old ++ token_bytes token

-- how much of the frame a run takes, and the place behind it
abbrev pub run_size : Run → ℕ
run_size (run.Copy n) = n
run_size (run.Literal n) = n
run_size (run.Digits n) = 2 * n
run_size (run.Move n) = 0

abbrev pub place_after : Run → (place long : ℕ) → ℕ
place_after (run.Move n) place long = min (place + n - 31) long
place_after (run.Copy n) place long = min (place + n) long
place_after (run.Literal n) place long = min (place + n) long
place_after (run.Digits n) place long = min (place + 2 * n) long

-- the number of a move
abbrev pub moves : Run → ℕ
moves (run.Move n) = n
moves r = 0

-- what a run is about is there in the rest of the frame
abbrev pub CanBeWritten : Run → List ℕ → Type 0
CanBeWritten (run.Copy n) rest = (0 < n) × (n ≤ 63)
CanBeWritten (run.Literal n) rest = (0 < n) × (n ≤ 64) × (n ≤ length rest)
CanBeWritten (run.Digits n) rest = (0 < n) × (n ≤ 64) × (2 * n ≤ length rest) × AreDigits (2 * n) rest
CanBeWritten (run.Move n) rest = n ≤ 62

-- what is left of a frame as it is, and its end
abbrev pub rest_tokens : List ℕ → List packed.Token
rest_tokens [] = packed.End ∷ []
rest_tokens (b ∷ bytes) = packed.Long (b ∷ bytes) ∷ packed.End ∷ []
