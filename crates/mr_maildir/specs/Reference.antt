-- a message's body that stands for a mail's file
use Rattle.std.specs.Prelude.{◌≡◌, ◌<◌, ◌^◌, ℕ, List, ◌∷◌, ◌++◌, codes, length}
use Rattle.std.specs.Fmt.{decimal}
use Rattle.hex.specs.Hex.{encode_lower, IsBytes}
use Rattle.mr_maildir.specs.declared.reference.MailReference.{MailReference}

-- the digest of the file's bytes, how many these are, and the lines that tell more
pub record ReferenceParts : Type 0 where
  pub digest : List ℕ
  pub size : ℕ
  pub lines : List ℕ

abbrev pub parts_of : MailReference → ReferenceParts
parts_of reference = record { digest = reference.digest; size = reference.size; lines = reference.lines.now }

-- the line of the digest and what follows, and the line of the size
abbrev pub digest_line : List ℕ → List ℕ → List ℕ
digest_line digest rest = codes "sha256 " ++ (encode_lower digest ++ 10 ∷ rest)

abbrev pub size_line : ℕ → List ℕ → List ℕ
size_line size rest = codes "size " ++ (decimal size ++ 10 ∷ rest)

-- how a reference is written
abbrev pub reference_text : ReferenceParts → List ℕ
reference_text parts = codes "mail 1" ++ 10 ∷ digest_line parts.digest (size_line parts.size parts.lines)

-- 32 bytes
pub record IsDigest (digest : List ℕ) : Type 0 where
  pub bytes : IsBytes digest
  pub long : length digest ≡ 32

-- a digest, and a size below 2^64
pub record IsReference (parts : ReferenceParts) : Type 0 where
  pub digest_in : IsDigest parts.digest
  pub size_in : parts.size < 2 ^ 64
