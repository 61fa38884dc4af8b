-- what is told in a turn
use Rattle.std.specs.Prelude.{◌≡◌, ◌⊎◌, ◌<◌, ◌≤◌, ◌-◌, ◌++◌, ℕ, List, length, take, drop, Option, Some, None}
use Rattle.std.specs.List.{flat_map}
use Rattle.sha2.specs.Sha256.{sha256}
use Rattle.mr_madewith.specs.Revision.{Rev}
use Rattle.mr_talk.specs.Said.{Said}
use Rattle.mr_talk.specs.declared.kind.Kind.{Kind}
use Rattle.mr_talk.specs.declared.kind.Kind.TheVariants as kind
use Rattle.mr_wire.specs.Spelling.{u64}
use Rattle.mr_sync.specs.Lists.{revision_bytes}
use Rattle.mr_sync.specs.declared.sending.Sending.{Sending}

-- one of two kinds
abbrev pub IsOfKind : Kind → Kind → Kind → Type 0
IsOfKind a b k = (k ≡ a) ⊎ (k ≡ b)

-- a kind of what is told: a file, records, push-outs
abbrev pub IsGiven : Kind → Type 0
IsGiven kind.Whole = Unit {0}
IsGiven kind.Begin = Unit {0}
IsGiven kind.Records = Unit {0}
IsGiven kind.PushOuts = Unit {0}
IsGiven k = ⊥

-- a file of this digest is begun with these bytes, and none of its own is told
abbrev pub IsBegun : (digest bytes : List ℕ) → Option Sending → Type 0
IsBegun digest bytes None = ⊥
IsBegun digest bytes (Some s) = (bytes ≡ digest ++ u64 (length s.bytes.items)) × (s.told ≡ 0)

-- a file of this digest is told whole, and none is begun; or it is begun
abbrev pub IsOpened : (digest : List ℕ) → Said → Option Sending → Option Sending → Type 0
IsOpened digest message old new =
    ((message.kind ≡ kind.Whole) × (new ≡ old) × (sha256 message.bytes ≡ digest)) ⊎ ((message.kind ≡ kind.Begin) × IsBegun digest message.bytes new)

-- a kind of what is sent for a file that is wanted: the file, or that it is missing
abbrev pub IsWantedFile : Kind → Type 0
IsWantedFile kind.Whole = Unit {0}
IsWantedFile kind.Begin = Unit {0}
IsWantedFile kind.Missing = Unit {0}
IsWantedFile k = ⊥

-- a message tells the revisions behind those that are told, as far as it goes; or all are told
abbrev pub TellsRevisions : List Rev → (told new : ℕ) → Option Said → Type 0
TellsRevisions revisions told new None = (length revisions ≤ told) × (new ≡ told)
TellsRevisions revisions told new (Some message) = (told < new) × (new ≤ length revisions) × (message.bytes ≡ flat_map revision_bytes (take (new - told) (drop told revisions)))
