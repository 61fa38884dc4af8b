-- marks of histories: which version of a replica another's log tells as the newest, and by what message
use Rattle.std.specs.Prelude.{◌≡◌, ◌⊎◌, ◌<◌, ◌^◌, ℕ, List, ◌++◌, length, take, replicate, Some}
use Rattle.std.specs.Int.{w32, to_be_bytes}
use Rattle.sha2.specs.Sha256.{sha256}
use Rattle.mr_version.specs.Name.{IsVersion, Name}
use Rattle.mr_mail.specs.Mail.{Mail}
use Rattle.mr_lookup.specs.Told.{message_at}
use Rattle.mr_lookup.specs.Versions.{IsNewest, TellsNone}
use Rattle.mr_wire.specs.Spelling.{message_bytes}
use Rattle.mr_sync.specs.declared.marks.Mark.{Mark}

-- the first bytes of a message's digest
abbrev pub message_short : Mail → List ℕ
message_short message = take 16 (sha256 (message_bytes message))

-- a mark's one spelling: the counter in four bytes, the highest first, and the first bytes of the digest
abbrev pub mark_bytes : Mark → List ℕ
mark_bytes mark = to_be_bytes w32 mark.counter ++ mark.short

-- the bytes are a mark, and this behind it
pub record IsMarked (bytes : List ℕ) (mark : Mark) (frame : List ℕ) : Type 0 where
  pub counter_in : mark.counter < 2 ^ 32
  pub short_long : length mark.short ≡ 16
  pub whole : bytes ≡ mark_bytes mark ++ frame

-- no version of the author is told, and the mark is of none
pub record MarksNone (told : List (Name × Mail)) (author : ℕ) (mark : Mark) : Type 0 where
  pub none : TellsNone told author
  pub counter_is : mark.counter ≡ 0
  pub short_is : mark.short ≡ replicate 16 0

-- the mark is of the author's newest version that is told
pub record MarksNewest (told : List (Name × Mail)) (author : ℕ) (mark : Mark) : Type 0 where
  pub version : Name
  pub message : Mail
  pub newest : IsNewest told author version message
  pub counter_is : mark.counter ≡ version.counter
  pub short_is : mark.short ≡ message_short message

-- the mark of an author, by the versions that a log tells
abbrev pub IsMarkOf : List (Name × Mail) → (author : ℕ) → Mark → Type 0
IsMarkOf told author mark = MarksNone told author mark ⊎ MarksNewest told author mark

-- the author's version of that counter is told with this message
pub record Tells (told : List (Name × Mail)) (author counter : ℕ) (message : Mail) : Type 0 where
  pub is_version : IsVersion author counter
  pub is_told : message_at told (record { author = author; counter = counter }) ≡ Some message

-- the author's version of that counter is told with no message
abbrev pub TellsNoneOf : List (Name × Mail) → (author counter : ℕ) → Type 0
TellsNoneOf told author counter = (message : Mail) → Tells told author counter message → ⊥

-- the mark is of such a version of this replica, and of its message
pub record MarksOwn (id : ℕ) (told : List (Name × Mail)) (mark : Mark) : Type 0 where
  pub message : Mail
  pub own : Tells told id mark.counter message
  pub short_is : mark.short ≡ message_short message

-- a replica whose log tells these versions agrees with a mark of its history
abbrev pub AgreesWith : (id : ℕ) → List (Name × Mail) → Mark → Type 0
AgreesWith id told mark = (mark.counter ≡ 0) ⊎ MarksOwn id told mark

-- the bytes begin with a mark with which it agrees, and go on with the frame
pub record HasOwnMark (id : ℕ) (told : List (Name × Mail)) (bytes frame : List ℕ) : Type 0 where
  pub mark : Mark
  pub marked : IsMarked bytes mark frame
  pub agrees : AgreesWith id told mark

-- the bytes begin with a mark with which it doesn't agree
pub record HasOtherMark (id : ℕ) (told : List (Name × Mail)) (bytes : List ℕ) : Type 0 where
  pub mark : Mark
  pub frame : List ℕ
  pub marked : IsMarked bytes mark frame
  pub differs : AgreesWith id told mark → ⊥
