-- what a log tells of one item: its versions
use Rattle.std.specs.Prelude.{◌≡◌, ◌≢◌, ℕ, Bool, true, false, List, ◌∷◌, ◌++◌, Some, All, AllPairs, count_by}
use Rattle.std.specs.List.{list_any}
use Rattle.mr_version.specs.Name.{Name, name_eq}
use Rattle.mr_mail.specs.Mail.{Mail}
use Rattle.mr_madewith.specs.Revision.{Rev}
use Rattle.mr_wire.specs.Frames.{Sent}
use Rattle.mr_wire.specs.declared.frame.Body.TheVariants.{Item}
use Rattle.mr_wire.specs.declared.frame.Frame.TheVariants.{Record}
use Rattle.mr_replica.specs.declared.event.Event.{Event}
use Rattle.mr_replica.specs.declared.event.Event.TheVariants.{Create, Edit, Receive}
use Rattle.mr_lookup.specs.Versions.{next_name}

-- whether a version is among these
abbrev pub is_told : List (Name × Mail) → Name → Bool
is_told past version = list_any (λ told. name_eq told.0 version) past

-- whether an event issues a version
abbrev pub issues : Event → Bool
issues (Create message) = true
issues (Edit bases message) = true
issues _ = false

module _ (id : ℕ) (item : Name) where
  -- In the log of a replica of this id an event tells of the item, behind the events before it, this version with this message:
  pub data TellsOf : (before : List Event) → Event → (version : Name) → Mail → Type 0 where
    -- a Create the version that it issues, if that names the item,
    created : {before : List Event} {message : Mail} → next_name id (count_by issues before) ≡ Some item → TellsOf before (Create message) item message
    -- an Edit the version that it issues, if an event before it tells of the item the first base,
    edited : (earlier between : List Event) (event : Event) (base : Name) {others : List Name} {version : Name} (first : Mail) {message : Mail} → TellsOf earlier event base first
        → next_name id (count_by issues (earlier ++ event ∷ between)) ≡ Some version → TellsOf (earlier ++ event ∷ between) (Edit (base ∷ others) message) version message
    -- and an Item that was received its version, if that is of the item
    received : {before : List Event} (sent : Sent) (r : Rev) → sent.body ≡ Item r → r.item ≡ item → TellsOf before (Receive (Record sent)) r.version r.message

  -- some event of the log tells of the item this version
  pub record TellsVersion (log : List Event) (version : Name) : Type 0 where
    pub before : List Event
    pub event : Event
    pub after : List Event
    pub message : Mail
    pub is_split : log ≡ before ++ event ∷ after
    pub tells : TellsOf before event version message

  -- one does with this message, and no event before it tells the version
  pub record TellsFirst (log : List Event) (version : Name) (message : Mail) : Type 0 where
    pub before : List Event
    pub event : Event
    pub after : List Event
    pub is_split : log ≡ before ++ event ∷ after
    pub tells : TellsOf before event version message
    pub is_new : ¬ TellsVersion before version

  -- a beginning of the log tells the first version, and not yet the second one
  pub record TellsEarlier (log : List Event) (first second : Name) : Type 0 where
    pub beginning : List Event
    pub rest : List Event
    pub is_split : log ≡ beginning ++ rest
    pub tells : TellsVersion beginning first
    pub not_yet : ¬ TellsVersion beginning second

  -- The versions of the item that the log tells, with their messages. At most one list is that: `one_history`, in the proofs.
  pub record IsHistory (log : List Event) (told : List (Name × Mail)) : Type 0 where
    -- all of them
    pub all : (version : Name) → TellsVersion log version → is_told told version ≡ true
    -- none twice
    pub once : AllPairs (λ one other. one.0 ≢ other.0) told
    -- each with the message that is told of it first
    pub first : All (λ one. TellsFirst log one.0 one.1) told
    -- in the order in which the log tells them first
    pub in_order : AllPairs (λ one other. TellsEarlier log one.0 other.0) told
