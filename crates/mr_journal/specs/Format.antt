-- the bytes of a journal, and the entries that they stand for
use Rattle.std.specs.Prelude.{◌≡◌, ◌≢◌, ◌⊎◌, ℕ, ◌+◌, ◌≤◌, ◌<◌, ◌^◌, List, [], ◌∷◌, ◌++◌, length, map, codes, Vec}
use Rattle.std.specs.Int.{w16, w32, w64, to_be_bytes}
use Rattle.std.specs.List.{flat_map, AllByRecursion}
use Rattle.std.specs.declared.alloc.Global.{Global}
use Rattle.sha2.specs.Sha256.{sha256}

-- numbers of two, four and eight bytes, the highest byte first
abbrev pub u16 : ℕ → List ℕ
u16 = to_be_bytes w16

abbrev pub u32 : ℕ → List ℕ
u32 = to_be_bytes w32

abbrev pub u64 : ℕ → List ℕ
u64 = to_be_bytes w64

-- the bytes of each entry
abbrev pub contents : List (Vec ℕ Global) → List (List ℕ)
contents entries = map (λ v. v.items) entries

-- what a journal of this format begins with
abbrev pub head : ℕ → List ℕ
head format = codes "Jimetsal" ++ u16 format

-- four bytes of length, and the entry
abbrev pub entry_bytes : List ℕ → List ℕ
entry_bytes entry = u32 (length entry) ++ entry

abbrev pub body : List (List ℕ) → List ℕ
body entries = flat_map entry_bytes entries

-- what stands behind the gate of a batch: the length of its body, the digest of that, and the body
abbrev pub sealed : List (List ℕ) → List ℕ
sealed entries = u64 (length (body entries)) ++ (sha256 (body entries) ++ body entries)

-- an open gate, and what stands behind it
abbrev pub batch : List (List ℕ) → List ℕ
batch entries = 1 ∷ sealed entries

-- entries that have a length of four bytes
abbrev pub AreEntries : List (List ℕ) → Type 0
AreEntries entries = AllByRecursion (λ entry. length entry < 2 ^ 32) entries

pub record IsBatch (entries : List (List ℕ)) : Type 0 where
  pub entries_are : AreEntries entries
  pub whole : length (body entries) < 2 ^ 64

-- a head and whole batches, whose entries are these in their order
pub record AreBatches (entries : List (List ℕ)) (front : List ℕ) : Type 0 where
  pub batches : List (List (List ℕ))
  pub each : AllByRecursion IsBatch batches
  pub front_is : front ≡ head 1 ++ flat_map batch batches
  pub entries_are : entries ≡ flat_map (λ b. b) batches

-- batches, a closed gate, and behind it whatever a crash left
pub record IsJournal (entries : List (List ℕ)) (file : List ℕ) : Type 0 where
  pub front : List ℕ
  pub left : List ℕ
  pub batches : AreBatches entries front
  pub file_is : file ≡ front ++ (0 ∷ left)

-- no journal yet: at most one byte, or what a crash leaves of a head before its first byte is written
abbrev pub IsNew : List ℕ → Type 0
IsNew file = (length file ≤ 1) ⊎ ((left : List ℕ) × (file ≡ 0 ∷ left) × (length left ≤ 10))

-- the entries that a file's bytes stand for
abbrev pub Stands : List (List ℕ) → List ℕ → Type 0
Stands entries file = IsJournal entries file ⊎ ((entries ≡ []) × IsNew file)

-- behind whole batches, at this byte, there is neither a closed gate nor a whole batch
pub record IsDamagedAt (place : ℕ) (file : List ℕ) : Type 0 where
  pub front : List ℕ
  pub rest : List ℕ
  pub entries : List (List ℕ)
  pub batches : AreBatches entries front
  pub file_is : file ≡ front ++ rest
  pub place_is : place ≡ length front
  pub no_gate : (left : List ℕ) → rest ≢ 0 ∷ left
  pub no_batch : (more : List (List ℕ)) (left : List ℕ) → IsBatch more → rest ≢ batch more ++ left

-- a batch that a journal has room for, behind this place
pub record Fits (place : ℕ) (entries : List (List ℕ)) : Type 0 where
  pub entries_are : AreEntries entries
  pub room : place + 42 + length (body entries) ≤ 2 ^ 62

-- two files stand for the same entries
abbrev pub StandAlike : List ℕ → List ℕ → Type 0
StandAlike file other = (entries : List (List ℕ)) × Stands entries file × Stands entries other
