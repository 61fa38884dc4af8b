-- worked rows: what the definitions give for small values
use Rattle.std.specs.Prelude.{◌≡◌, ℕ, false, [], ◌∷◌, Some, None, refl}
use Rattle.mr_version.specs.Name.{Name}
use Rattle.mr_mail.specs.Mail.{Mail}
use Rattle.mr_madewith.specs.Revision.{Rev}
use Rattle.mr_lookup.specs.Ancestors.{newest_common}
use Rattle.mr_lookup.specs.Highest.{HasNone}
use Rattle.mr_lookup.specs.inner.Highest.{higher_of}
use Rattle.mr_lookup.specs.Told.{first_told, message_at}
use Rattle.mr_lookup.specs.Versions.{TellsNone, next_name, versions_told}
use Rattle.mr_lookup.specs.inner.Versions.{newer_of}
use Rattle.mr_replica.specs.declared.event.Event.{Event}
use Rattle.mr_replica.specs.declared.event.Event.TheVariants.{Create, Edit, Receive, Retire}
use Rattle.mr_wire.specs.declared.frame.Body.TheVariants.{Item}
use Rattle.mr_wire.specs.declared.frame.Frame.TheVariants as frame
use Rattle.mr_wire.specs.declared.frame.Header.{Header}

-- where nothing is known, nothing of any author is
pub nothing_row : HasNone (λ item version. false) 3
nothing_row item version of_author = refl

pub higher_row : higher_of (Some 4) (Some 7) ≡ Some 7
higher_row = refl

-- a vector without the author's versions counts for nothing
pub one_row : higher_of (Some 4) None ≡ Some 4
one_row = refl

-- ---- common ancestors

abbrev first : Name
first = record { author = 0; counter = 1 }

-- a version of the item that supersedes the first so many of author 0
abbrev rev : (author counter upto : ℕ) → Mail → Rev
rev author counter upto message = record {
  item = first;
  version = record { author = author; counter = counter };
  below = record { author = 0; column = record { upto = upto; holes = [] } } ∷ [];
  message = message;
}

-- two heads come of 0.2, which was made from 0.1: that is older, and 0.3 is an ancestor of one of them alone
pub newest_row : (m : Mail) → newest_common (rev 1 1 2 m ∷ rev 0 4 3 m ∷ []) (rev 0 2 1 m ∷ rev 0 3 2 m ∷ []) ≡ rev 0 2 1 m ∷ []
newest_row m = refl

-- of one head the newest is what it was made from
pub one_head_row : (m : Mail) → newest_common (rev 0 4 3 m ∷ []) (rev 0 2 1 m ∷ rev 0 3 2 m ∷ []) ≡ rev 0 3 2 m ∷ []
one_head_row m = refl

-- and two of two branches have none there
pub none_row : (m : Mail) → newest_common (rev 1 1 1 m ∷ rev 0 4 3 m ∷ []) (rev 0 2 1 m ∷ rev 0 3 2 m ∷ []) ≡ []
none_row m = refl

-- ---- what a log tells first

-- the second Create of replica 5 made 5.3, since an Edit issued 5.2 between
pub own_row : (m n : Mail) → first_told 5 (Create m ∷ Edit [] m ∷ Retire ∷ Create n ∷ []) (record { author = 5; counter = 3 }) ≡ Some n
own_row m n = refl

-- and no item is named for the Edit's version
pub edit_row : (m n : Mail) → first_told 5 (Create m ∷ Edit [] m ∷ Retire ∷ Create n ∷ []) (record { author = 5; counter = 2 }) ≡ None
edit_row m n = refl

-- of what was received of an item the first counts
pub received_row : (h : Header) (m n : Mail) → first_told 5 (Receive (frame.Record (record { header = h; body = Item (rev 0 1 0 m) })) ∷ Receive (frame.Record (record { header = h; body = Item (rev 1 1 1 n) })) ∷ []) first ≡ Some m
received_row h m n = refl

-- ---- what a log tells of versions

abbrev name : (author counter : ℕ) → Name
name author counter = record { author = author; counter = counter }

-- an Item of this version was received
abbrev got : Header → (author counter : ℕ) → Mail → Event
got h author counter message = Receive (frame.Record (record { header = h; body = Item (rev author counter 1 message) }))

-- a Create and an Edit issue the versions of a replica, and each version is told with the message that the event has
pub told_row : (h : Header) (m n : Mail) → versions_told 5 (Create m ∷ Retire ∷ got h 1 4 n ∷ Edit (name 5 1 ∷ []) n ∷ []) ≡ (name 5 1, m) ∷ (name 1 4, n) ∷ (name 5 2, n) ∷ []
told_row h m n = refl

-- of two messages that were received of a version the first counts
pub first_message_row : (h : Header) (m n : Mail) → message_at (versions_told 5 (got h 1 4 m ∷ got h 1 4 n ∷ [])) (name 1 4) ≡ Some m
first_message_row h m n = refl

-- and none of a version that no event tells
pub untold_row : (h : Header) (m : Mail) → message_at (versions_told 5 (Create m ∷ got h 1 4 m ∷ [])) (name 5 2) ≡ None
untold_row h m = refl

-- no version is issued behind the last counter
pub last_counter_row : next_name 5 999999 ≡ Some (name 5 1000000)
last_counter_row = refl

pub behind_last_row : next_name 5 1000000 ≡ None
behind_last_row = refl

-- where nothing is told, nothing of any author is
pub tells_nothing_row : TellsNone [] 5
tells_nothing_row version of_author = refl

-- of two versions of an author that with the higher counter is newer, whichever is told first
pub newer_row : (m n : Mail) → newer_of 5 (Some (name 5 3, m)) (Some (name 5 4, n)) ≡ Some (name 5 4, n)
newer_row m n = refl

pub older_row : (m n : Mail) → newer_of 5 (Some (name 5 4, m)) (Some (name 5 3, n)) ≡ Some (name 5 4, m)
older_row m n = refl

-- a version that is told again keeps its first message
pub same_counter_row : (m n : Mail) → newer_of 5 (Some (name 5 4, m)) (Some (name 5 4, n)) ≡ Some (name 5 4, m)
same_counter_row m n = refl

-- and another author's doesn't count
pub other_author_row : (m n : Mail) → newer_of 5 (Some (name 5 4, m)) (Some (name 6 9, n)) ≡ Some (name 5 4, m)
other_author_row m n = refl
