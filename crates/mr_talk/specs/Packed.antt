-- frames that are spelled against the one before: what a run of tokens spells
use Rattle.std.specs.Prelude.{◌≡◌, ◌≤◌, ◌<◌, ◌+◌, ◌-◌, ◌/◌, ◌%◌, ◌^◌, ℕ, nat_lt, if◌then◌else◌, min, List, [], ◌∷◌, ◌++◌, length, take, drop, Option, Some, None}
use Rattle.mr_talk.specs.declared.kind.TheConstants.{MAX_FRAMES_BYTES}
use Rattle.mr_talk.specs.declared.packed.PackedFault.{PackedFault}
use Rattle.mr_talk.specs.declared.packed.PackedFault.TheVariants.{OutOfMemory, BadToken, TooLong}
use Rattle.std.specs.List.{flat_map, AllByRecursion}
use Rattle.std.specs.Int.{w32, to_be_bytes}

-- what a token stands for: the end of a frame, so many bytes of the frame before, these bytes, two digits for each of these bytes, another place in the frame before (a distance from 31 bytes back), or these bytes of whatever number
pub data Token : Type 0 where
  End : Token
  Copy : ℕ → Token
  Literal : List ℕ → Token
  Digits : List ℕ → Token
  Move : ℕ → Token
  Long : List ℕ → Token

-- its first byte, the lowest and the highest of its sort, and the bytes that follow
abbrev pub head : Token → ℕ
head End = 0
head (Copy n) = n
head (Literal bytes) = 63 + length bytes
head (Digits bytes) = 127 + length bytes
head (Move n) = 192 + n
head (Long bytes) = 255

abbrev pub lowest : Token → ℕ
lowest End = 0
lowest (Copy n) = 1
lowest (Literal bytes) = 64
lowest (Digits bytes) = 128
lowest (Move n) = 192
lowest (Long bytes) = 255

abbrev pub highest : Token → ℕ
highest End = 0
highest (Copy n) = 63
highest (Literal bytes) = 127
highest (Digits bytes) = 191
highest (Move n) = 254
highest (Long bytes) = 255

abbrev pub body : Token → List ℕ
body End = []
body (Copy n) = []
body (Literal bytes) = bytes
body (Digits bytes) = bytes
body (Move n) = []
body (Long bytes) = to_be_bytes w32 (length bytes) ++ bytes

abbrev pub token_bytes : Token → List ℕ
token_bytes t = head t ∷ body t

-- what is a token: its first byte is of its sort, and four bytes can tell how long it is
pub record IsToken (t : Token) : Type 0 where
  pub low : lowest t ≤ head t
  pub high : head t ≤ highest t
  pub short : length (body t) < 4 + 2 ^ 32

-- a number below 16 as a hexadecimal digit
abbrev pub digit : ℕ → ℕ
digit n = if nat_lt n 10 then 48 + n else 87 + n

abbrev pub two_digits : ℕ → List ℕ
two_digits byte = digit (byte / 16) ∷ digit (byte % 16) ∷ []

-- how far frames are spelled: the frame before, a place in it, the frame so far, and the whole ones, one behind another
pub record Spelled : Type 0 where
  pub before : List ℕ
  pub place : ℕ
  pub now : List ℕ
  pub told : List ℕ

-- Bytes that are spelled go behind the frame so far, and the place goes on as far. It is never behind the frame before.
abbrev pub says : List ℕ → Spelled → Spelled
says bytes s = record { before = s.before; place = min (s.place + length bytes) (length s.before); now = s.now ++ bytes; told = s.told }

-- what a token spells; nothing where it copies more than the frame before has
abbrev pub spell : Token → Spelled → Option Spelled
spell End s = Some (record { before = s.now; place = 0; now = []; told = s.told ++ s.now })
spell (Copy n) s = if nat_lt (length s.before) (s.place + n) then None else Some (says (take n (drop s.place s.before)) s)
spell (Literal bytes) s = Some (says bytes s)
spell (Digits bytes) s = Some (says (flat_map two_digits bytes) s)
spell (Move n) s = Some (record { before = s.before; place = min (s.place + n - 31) (length s.before); now = s.now; told = s.told })
spell (Long bytes) s = Some (says bytes s)

-- one token after the other
abbrev pub Spells : List Token → Spelled → Spelled → Type 0
Spells [] from to = from ≡ to
Spells (t ∷ ts) from to = (next : Spelled) × (spell t from ≡ Some next) × Spells ts next to

-- nothing is spelled behind this frame
abbrev pub begun : List ℕ → List ℕ → Spelled
begun before told = record { before = before; place = 0; now = []; told = told }

-- the bytes are tokens that spell as much, one after the other
pub record Tells (bytes : List ℕ) (from to : Spelled) : Type 0 where
  pub tokens : List Token
  pub are : AllByRecursion IsToken tokens
  pub whole : bytes ≡ flat_map token_bytes tokens
  pub spelled : Spells tokens from to

-- The bytes spell these frames, one behind another and each whole, where one frame went before them; behind them another is the last.
abbrev pub Unpacks : (before bytes frames after : List ℕ) → Type 0
Unpacks before bytes frames after = Tells bytes (begun before []) (begun after frames)

-- how many bytes were spelled: of whole frames, and of the frame so far
abbrev pub size_of : Spelled → ℕ
size_of s = length s.told + length s.now

-- the bytes begin with tokens that spell as much, one after the other, and go on with these
pub record TellsUpTo (bytes : List ℕ) (from to : Spelled) (left : List ℕ) : Type 0 where
  pub taken : List ℕ
  pub whole : bytes ≡ taken ++ left
  pub told : Tells taken from to

-- some of the bytes at the front spell more than a message has frames
pub record TellsTooMuch (bytes : List ℕ) (from : Spelled) : Type 0 where
  pub to : Spelled
  pub left : List ℕ
  pub told : TellsUpTo bytes from to left
  pub more : MAX_FRAMES_BYTES < size_of to

-- What the bytes begin with spells no more than a message has frames. Behind it stands no token that spells anything; or they are at their end, and within a frame.
pub record EndsBadly (bytes : List ℕ) (from : Spelled) : Type 0 where
  pub to : Spelled
  pub left : List ℕ
  pub told : TellsUpTo bytes from to left
  pub few : size_of to ≤ MAX_FRAMES_BYTES
  pub stops : (t : Token) (more : List ℕ) → IsToken t → left ≡ token_bytes t ++ more → spell t to ≡ None
  pub within : left ≡ [] → (after frames : List ℕ) → to ≡ begun after frames → ⊥

-- why bytes are not unpacked from there on: where there is no memory, they are not to blame
abbrev pub IsBlamed : PackedFault → List ℕ → Spelled → Type 0
IsBlamed OutOfMemory bytes from = Unit {0}
IsBlamed BadToken bytes from = EndsBadly bytes from
IsBlamed TooLong bytes from = TellsTooMuch bytes from
