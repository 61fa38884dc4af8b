-- a stream of bytes: the spellings of messages, one behind another, and then what is no whole message
use Rattle.std.specs.Prelude.{◌≡◌, ℕ, List, [], ◌∷◌, ◌++◌, length, ◌+◌, ◌<◌}
use Rattle.mr_talk.specs.declared.kind.TheConstants.{MAX_PACKED_BYTES}
use Rattle.mr_talk.specs.Said.{Said, IsMessage, message_bytes}

-- the bytes begin with the spelling of the message, and go on with these
pub record Begins (bytes : List ℕ) (m : Said) (left : List ℕ) : Type 0 where
  pub is : IsMessage m
  pub whole : bytes ≡ message_bytes m ++ left

-- the bytes are spellings of the messages, one behind another, and then the rest
abbrev pub AreMessages : List ℕ → List Said → List ℕ → Type 0
AreMessages bytes [] rest = bytes ≡ rest
AreMessages bytes (m ∷ messages) rest = (left : List ℕ) × Begins bytes m left × AreMessages left messages rest

-- fewer bytes than the longest message has: five of the kind and the length, and what stands behind them
abbrev pub IsPart : List ℕ → Type 0
IsPart rest = length rest < 5 + MAX_PACKED_BYTES
