-- files that come
use Rattle.std.specs.Prelude.{◌≡◌, ◌+◌, ◌++◌, ℕ, false, List, [], length, is_some, Option, Some, None}
use Rattle.std.specs.BTreeMap.{is_at}
use Rattle.std.specs.Cmp.Lexicographic.{slice_cmp}
use Rattle.std.specs.Ordering.{nat_cmp}
use Rattle.std.specs.Set.{remove_key}
use Rattle.sha2.specs.Sha256.{sha256}
use Rattle.mr_folder.specs.Store.{GetsMail, HasCome, IsKept}
use Rattle.mr_folder.specs.Tree.{Tree}
use Rattle.mr_talk.specs.declared.kind.Kind.{Kind}
use Rattle.mr_talk.specs.declared.kind.Kind.TheVariants as kind
use Rattle.mr_wire.specs.Spelling.{u64}
use Rattle.mr_sync.specs.declared.coming.Coming.{Coming}

-- a file is begun by these bytes: its digest, and how many bytes are to come
abbrev pub IsBegunBy : List ℕ → Option Coming → Type 0
IsBegunBy bytes None = ⊥
IsBegunBy bytes (Some file) = bytes ≡ file.digest ++ u64 file.left

-- a file goes on by these bytes, which are no more than were to come of it
abbrev pub GoesOnBy : List ℕ → Option Coming → Option Coming → Type 0
GoesOnBy bytes None new = ⊥
GoesOnBy bytes (Some old) None = ⊥
GoesOnBy bytes (Some old) (Some new) = (new.digest ≡ old.digest) × (new.left + length bytes ≡ old.left)

-- nothing more is to come of a file
abbrev pub IsWhole : Option Coming → Type 0
IsWhole None = ⊥
IsWhole (Some file) = file.left ≡ 0

-- which file comes before a message of this kind and these bytes, and which behind it: a whole one, or what one begins with, only where none comes; a piece, or an end, only of one that comes
abbrev pub GoesWith : Kind → List ℕ → Option Coming → Option Coming → Type 0
GoesWith kind.Whole bytes old new = (is_some old ≡ false) × (is_some new ≡ false)
GoesWith kind.Begin bytes old new = (is_some old ≡ false) × IsBegunBy bytes new
GoesWith kind.Piece bytes old new = GoesOnBy bytes old new
GoesWith kind.End bytes old new = IsWhole old × (is_some new ≡ false)
GoesWith other bytes old new = ⊥

-- of a file that comes these bytes have come, and the store's draft has them
abbrev pub HasPart : List ℕ → Option Coming → Tree → Type 0
HasPart come None tree = ⊥
HasPart come (Some file) tree = HasCome come file.incoming tree

-- the bytes that came have the digest that was told of the file, and the store has it: a file that was there is as it was, and else these bytes are there
abbrev pub IsStored : List ℕ → Option Coming → Tree → Tree → Type 0
IsStored come None before now = ⊥
IsStored come (Some file) before now = (sha256 come ≡ file.digest) × GetsMail file.digest come before now

-- what the store has behind a message: a whole file by its own digest; of one that begins or goes on what has come of it; and by the digest that was told one that has come
abbrev pub Stores : Kind → List ℕ → Option Coming → Tree → Option Coming → Tree → Type 0
Stores kind.Whole bytes old before new now = GetsMail (sha256 bytes) bytes before now
Stores kind.Begin bytes old before new now = HasPart [] new now
Stores kind.Piece bytes old before new now = (come : List ℕ) → HasPart come old before → HasPart (come ++ bytes) new now
Stores kind.End bytes old before new now = (come : List ℕ) → HasPart come old before → IsStored come old before now
Stores other bytes old before new now = ⊥

-- a list without this digest
abbrev pub without : List ℕ → List (List ℕ) → List (List ℕ)
without digest lacking = remove_key (is_at (slice_cmp nat_cmp digest)) lacking

-- which files lack behind a message: those that lacked before, but for one that came, as a whole or to its end
abbrev pub LacksLess : Kind → List ℕ → Option Coming → (old new : List (List ℕ)) → Type 0
LacksLess kind.Whole bytes coming old new = new ≡ without (sha256 bytes) old
LacksLess kind.End bytes (Some file) old new = new ≡ without file.digest old
LacksLess other bytes coming old new = new ≡ old

module _ {F : Type 0} (seen : F → Tree) (may_leave : F → Tree → Type 0) where
  -- whatever a crash leaves then, the file that came is in the store
  abbrev pub IsKeptFile : Option Coming → F → Type 0
  IsKeptFile None files = ⊥
  IsKeptFile (Some file) files = IsKept seen may_leave file.digest files

  -- a file that came, as a whole or to its end, is kept behind its message
  abbrev pub KeepsFile : Kind → List ℕ → Option Coming → F → F → Type 0
  KeepsFile kind.Whole bytes old before now = IsKept seen may_leave (sha256 bytes) now
  KeepsFile kind.End bytes old before now = (come : List ℕ) → HasPart come old (seen before) → IsKeptFile old now
  KeepsFile other bytes old before now = Unit {0}
