-- a hello: its bytes, and what is wrong with bytes that are none
use Rattle.std.specs.Prelude.{◌≡◌, ◌≢◌, ◌≤◌, ◌<◌, ◌^◌, ℕ, Bool, true, false, List, [], ◌∷◌, ◌++◌, length, slice_index, Result, Ok, Err}
use Rattle.std.specs.Int.{w32, to_be_bytes}
use Rattle.mr_version.specs.declared.author.TheConstants.{AUTHORS}
use Rattle.mr_talk.specs.declared.hello.Hello.{Hello}
use Rattle.mr_talk.specs.declared.hello.HelloFault.{HelloFault}
use Rattle.mr_talk.specs.declared.hello.HelloFault.TheVariants.{Length, Format, Id, Waiting, KeepsAll}
use Rattle.mr_talk.specs.declared.hello.TheConstants.{HELLO_FORMAT}
use Rattle.mr_talk.specs.declared.kind.TheConstants.{HELLO_BYTES}

-- 1 for yes, 0 for no
abbrev pub flag : Bool → ℕ
flag false = 0
flag true = 1

-- its one spelling: format, id, birth, the digest of what it knows and that of its last message, the highest counter that it issued and the highest that it knows of the other, whether something waits here, mail for a receipt or a mail for its file, and whether it keeps all
abbrev pub hello_bytes : Hello → List ℕ
hello_bytes h = HELLO_FORMAT ∷ h.id ∷ (h.birth ++ (h.knows ++ (h.tip ++ (to_be_bytes w32 h.issued ++ (to_be_bytes w32 h.known ++ (flag h.is_waiting ∷ flag h.keeps_all ∷ []))))))

-- what is a hello: each field has its size
pub record IsHello (h : Hello) : Type 0 where
  pub id : h.id < AUTHORS
  pub birth : length h.birth ≡ 16
  pub knows : length h.knows ≡ 12
  pub tip : length h.tip ≡ 4
  pub issued : h.issued < 2 ^ 32
  pub known : h.known < 2 ^ 32

-- the fields that stand before this one are right
abbrev pub IsLong : List ℕ → Type 0
IsLong bytes = length bytes ≡ HELLO_BYTES

abbrev pub IsOfFormat : List ℕ → Type 0
IsOfFormat bytes = IsLong bytes × (slice_index bytes 0 ≡ HELLO_FORMAT)

abbrev pub HasId : List ℕ → Type 0
HasId bytes = IsOfFormat bytes × (slice_index bytes 1 < AUTHORS)

-- What is read is spelled by the bytes, all of them; a fault is that of the first field that is wrong.
abbrev pub Reads : List ℕ → Result Hello HelloFault → Type 0
Reads bytes (Ok h) = IsHello h × (bytes ≡ hello_bytes h)
Reads bytes (Err Length) = length bytes ≢ HELLO_BYTES
Reads bytes (Err Format) = IsLong bytes × (slice_index bytes 0 ≢ HELLO_FORMAT)
Reads bytes (Err Id) = IsOfFormat bytes × (AUTHORS ≤ slice_index bytes 1)
Reads bytes (Err Waiting) = HasId bytes × (1 < slice_index bytes 42)
Reads bytes (Err KeepsAll) = HasId bytes × (slice_index bytes 42 ≤ 1) × (1 < slice_index bytes 43)
