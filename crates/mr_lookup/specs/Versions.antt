-- what a log tells of versions
use Rattle.std.specs.Prelude.{◌≡◌, ◌≤◌, ℕ, ◌+◌, nat_lt, if◌then◌else◌, List, [], ◌∷◌, Option, Some, None, MatchOption}
use Rattle.std.specs.Coded.{Coded, coded×}
use Rattle.std.specs.List.{cons_option}
use Rattle.std.specs.Option.{option_map}
use Rattle.mr_version.specs.Name.{Name, name_code}
use Rattle.mr_version.specs.declared.version.TheConstants.{MAX_COUNTER}
use Rattle.mr_mail.specs.Mail.{Mail, mail_code}
use Rattle.mr_wire.specs.declared.frame.Body.{Body}
use Rattle.mr_wire.specs.declared.frame.Body.TheVariants.{Item}
use Rattle.mr_wire.specs.declared.frame.Frame.{Frame}
use Rattle.mr_wire.specs.declared.frame.Frame.TheVariants.{Record}
use Rattle.mr_replica.specs.declared.event.Event.{Event}
use Rattle.mr_replica.specs.declared.event.Event.TheVariants.{Create, Edit, Receive}
use Rattle.mr_lookup.specs.Told.{issued_with, message_at, own_name}

-- a version with its message is stored as the pair of them
abbrev pub told_code : Coded (Name × Mail)
told_code = coded× name_code mail_code

-- the version that a replica issues behind so many others: none behind the last counter
abbrev pub next_name : (id issued : ℕ) → Option Name
next_name id issued = if nat_lt issued MAX_COUNTER then Some (own_name id (issued + 1)) else None

-- with its message
abbrev pub issued_next : (id issued : ℕ) → Mail → Option (Name × Mail)
issued_next id issued message = option_map (λ version. (version, message)) (next_name id issued)

-- the version that a record tells with its message
abbrev pub version_in : Body → Option (Name × Mail)
version_in (Item r) = Some (r.version, r.message)
version_in _ = None

abbrev pub version_in_frame : Frame → Option (Name × Mail)
version_in_frame (Record sent) = version_in sent.body
version_in_frame _ = None

-- the version that an event tells with its message: a Create and an Edit tell the one that they issue
abbrev pub version_told_by : (id issued : ℕ) → Event → Option (Name × Mail)
version_told_by id issued (Create message) = issued_next id issued message
version_told_by id issued (Edit bases message) = issued_next id issued message
version_told_by id issued (Receive frame) = version_in_frame frame
version_told_by id issued _ = None

-- the versions that events tell with their messages, in their order, where so many were issued before
abbrev pub versions_after : (id issued : ℕ) → List Event → List (Name × Mail)
versions_after id issued [] = []
versions_after id issued (e ∷ es) = cons_option (version_told_by id issued e) (versions_after id (issued_with issued e) es)

-- the versions that a log tells with their messages
abbrev pub versions_told : (id : ℕ) → List Event → List (Name × Mail)
versions_told id log = versions_after id 0 log

-- none of these versions is the author's
abbrev pub TellsNone : List (Name × Mail) → (author : ℕ) → Type 0
TellsNone told author = (version : Name) → version.author ≡ author → message_at told version ≡ None

-- it is the author's, none of these that is the author's has a higher counter, and the first of these with its name has this message
pub record IsNewest (told : List (Name × Mail)) (author : ℕ) (version : Name) (message : Mail) : Type 0 where
  pub of_author : version.author ≡ author
  pub is_told : message_at told version ≡ Some message
  pub newest : (other : Name) → (older : Mail) → other.author ≡ author → message_at told other ≡ Some older → other.counter ≤ version.counter

-- it is the newest of the author's versions among these, with the first message that is told of it; or none of these is the author's
abbrev pub IsNewestFound : List (Name × Mail) → (author : ℕ) → Option (Name × Mail) → Type 0
IsNewestFound told author found = MatchOption found (TellsNone told author) (λ newest. IsNewest told author newest.0 newest.1)
