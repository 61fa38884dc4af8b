-- a message as contracts see it, and its bytes
use Rattle.std.specs.Prelude.{◌≤◌, ℕ, List, ◌∷◌, ◌++◌, length}
use Rattle.std.specs.Int.{w32, to_be_bytes}
use Rattle.mr_talk.specs.declared.kind.Kind.{Kind}
use Rattle.mr_talk.specs.Kinds.{kind_byte, limit_of}

-- a message: its kind, and the bytes behind its length
pub record Said : Type 0 where
  pub kind : Kind
  pub bytes : List ℕ

-- what is a message: no more bytes than one of its kind may have
abbrev pub IsMessage : Said → Type 0
IsMessage m = length m.bytes ≤ limit_of m.kind

-- its one spelling: a byte of its kind, four of its length, the highest first, and its bytes
abbrev pub message_bytes : Said → List ℕ
message_bytes m = kind_byte m.kind ∷ (to_be_bytes w32 (length m.bytes) ++ m.bytes)
