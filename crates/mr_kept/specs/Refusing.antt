-- why a journal isn't opened
use Rattle.std.specs.Prelude.{◌≡◌, ◌≢◌, ◌≤◌, ◌<◌, ◌+◌, ◌⊎◌, ◌++◌, ◌∷◌, [], ℕ, List, Option, Err, IsOk, length, map}
use Rattle.std.specs.List.{AllByRecursion}
use Rattle.mr_filter.specs.Fault.{IsFaultOf}
use Rattle.mr_filter.specs.Filter.{ClauseParts}
use Rattle.mr_filter.specs.Grammar.{Reads}
use Rattle.mr_filter.specs.declared.fault.FilterFault.TheVariants as filters
use Rattle.mr_forms.specs.Known.{Form}
use Rattle.mr_journal.specs.Format.{Stands}
use Rattle.mr_journal.specs.Reading.{IsReason}
use Rattle.mr_journal.specs.declared.fault.JournalFault.{JournalFault}
use Rattle.mr_entry.specs.Decoding.{decoded}
use Rattle.mr_entry.specs.Events.{events_of, events_of_entry}
use Rattle.mr_entry.specs.Grammar.{IsEntry, Spells}
use Rattle.mr_entry.specs.Head.{HeadParts}
use Rattle.mr_entry.specs.Note.{NoteParts}
use Rattle.mr_entry.specs.Spelling.{entry_bytes}
use Rattle.mr_entry.specs.declared.entry.Entry.{Entry}
use Rattle.mr_entry.specs.declared.entry.Entry.TheVariants as entry
use Rattle.mr_replica.specs.Replay.{RefusesReplay}
use Rattle.mr_replica.specs.State.{State}
use Rattle.mr_replica.specs.declared.event.Event.{Event}
use Rattle.mr_replica.specs.declared.replica.TheConstants.{MAX_EVENTS}
use Rattle.mr_replica.specs.declared.replica.replay.ReplayFault.TheVariants as replay
use Rattle.mr_kept.specs.declared.fault.KeptFault.{KeptFault}
use Rattle.mr_kept.specs.declared.fault.OpenFault.{OpenFault}
use Rattle.mr_kept.specs.declared.fault.OpenFault.TheVariants as fault
use Rattle.mr_kept.specs.Entries.{AreInOrder, AreSpelled, Belongs, counted, issued_after}
use Rattle.mr_kept.specs.Opening.{IsOfOther, IsOfPlace, IsReplayed}

-- ---- a text

-- an entry is only the front of the text
pub record IsLonger (text : List ℕ) : Type 0 where
  pub found : Entry
  pub front : List ℕ
  pub left : List ℕ
  pub spells : Spells found front
  pub text_is : text ≡ front ++ left
  pub some : left ≢ []

-- The text at this place is no entry: its bytes are refused so, or an entry is only the front of it. Memory is wanting only where an
-- entry stands at its front.
abbrev pub IsUnread : (place : ℕ) → (text : List ℕ) → OpenFault → Type 0
IsUnread place text fault.OutOfMemory = IsOk (decoded text)
IsUnread place text (fault.BadEntry at why) = (at ≡ place) × (decoded text ≡ Err why)
IsUnread place text (fault.Misplaced at) = (at ≡ place) × IsLonger text
IsUnread place text _ = ⊥

-- the first text is no entry, or one that is no head
abbrev pub IsNoHead : (text : List ℕ) → OpenFault → Type 0
IsNoHead text why = IsUnread 0 text why
    ⊎ ((e : Entry) × Spells e text × ((head : HeadParts) → e ≢ entry.Head head) × (why ≡ fault.Misplaced 0))

-- ---- entries behind the head

-- The entry at this place doesn't belong behind so many issued versions and so many events: it is a head; or its counter is
-- another's; or, though it belongs, there are more events with it than a log may have. Memory is wanting only where none of these holds.
abbrev pub IsOutOfOrder : (place issued count : ℕ) → Entry → OpenFault → Type 0
IsOutOfOrder place issued count e fault.OutOfMemory = Belongs issued e × (count + length (events_of_entry e) ≤ MAX_EVENTS + 1)
IsOutOfOrder place issued count e (fault.Misplaced at) = (head : HeadParts) × (at ≡ place) × (e ≡ entry.Head head)
IsOutOfOrder place issued count e (fault.OtherCounter at) = (n : ℕ) × (event : Event) × (at ≡ place) × (e ≡ entry.Event n event) × (n ≢ counted issued event)
IsOutOfOrder place issued count e fault.TooManyEvents = Belongs issued e × (MAX_EVENTS + 1 < count + length (events_of_entry e))
IsOutOfOrder place issued count e _ = ⊥

-- the text at this place is no entry, or one that doesn't belong there
abbrev pub IsWrong : (place issued count : ℕ) → (text : List ℕ) → OpenFault → Type 0
IsWrong place issued count text why = IsUnread place text why ⊎ ((e : Entry) × Spells e text × IsOutOfOrder place issued count e why)

-- the first of these texts that is no entry, or one that doesn't belong there, and what is wrong with it: those before it are
-- entries in order
pub record StopsAt (texts : List (List ℕ)) (why : OpenFault) : Type 0 where
  pub before : List Entry
  pub text : List ℕ
  pub left : List (List ℕ)
  pub all : texts ≡ map entry_bytes before ++ text ∷ left
  pub in_grammar : AllByRecursion IsEntry before
  pub order : AreInOrder before
  pub wrong : IsWrong (length before + 1) (issued_after 0 (events_of before)) (length (events_of before)) text why

-- ---- behind the head

-- the text means no filter; memory is wanting only where it means one
abbrev pub IsNoFilter : (text : List ℕ) → OpenFault → Type 0
IsNoFilter text fault.OutOfMemory = IsFaultOf text filters.OutOfMemory
IsNoFilter text (fault.BadFilter why) = (why ≢ filters.OutOfMemory) × IsFaultOf text why
IsNoFilter text _ = ⊥

module _ {K : Type 0} (form : Form K) where
  -- a log takes no such number of events, or a fresh replica of this head refuses one of them
  abbrev pub IsNoReplay : HeadParts → List ClauseParts → List Event → OpenFault → Type 0
  IsNoReplay head filter events (fault.Replay replay.BadLimit) = ¬ ((1 ≤ head.event_limit) × (head.event_limit ≤ MAX_EVENTS))
  IsNoReplay head filter events (fault.Replay (replay.Refused place refusal)) = RefusesReplay form head.id filter head.event_limit events place refusal
  IsNoReplay head filter events _ = ⊥

  -- the texts behind the head are no entries in order, or a replica doesn't come of them
  abbrev pub IsNoLog : HeadParts → List ClauseParts → List (List ℕ) → OpenFault → Type 0
  IsNoLog head filter texts why = StopsAt texts why
      ⊎ ((entries : List Entry) × AreSpelled entries texts × AreInOrder entries × IsNoReplay head filter (events_of entries) why)

  -- the head's text means no filter; or it does, and then the texts behind it are none of a replica of that head
  abbrev pub IsBehindHead : HeadParts → List (List ℕ) → OpenFault → Type 0
  IsBehindHead head texts why = IsNoFilter head.filter why ⊎ ((filter : List ClauseParts) × Reads head.filter filter × IsNoLog head filter texts why)

  -- the first of these that holds: there is no entry; the first is no head; the head is of another place, or of another birth;
  -- its filter means none; a text behind it is no entry that belongs there; a replica doesn't come of the events
  abbrev pub IsRefused : (texts : List (List ℕ)) → (mark : List ℕ) → (birth : Option (List ℕ)) → OpenFault → Type 0
  IsRefused [] mark birth why = why ≡ fault.NoReplica
  IsRefused (text ∷ texts) mark birth why = IsNoHead text why
      ⊎ ((head : HeadParts) × Spells (entry.Head head) text × (IsOfOther head mark birth why ⊎ (IsOfPlace head mark birth × IsBehindHead head texts why)))

  -- the texts are those of a replica of this place, and what closes what was open in it isn't kept
  abbrev pub IsUnkept : (texts : List (List ℕ)) → (mark : List ℕ) → (birth : Option (List ℕ)) → OpenFault → Type 0
  IsUnkept texts mark birth why =
      (head : HeadParts) × (s : State K) × (kept : ℕ) × (issued : ℕ) × (notes : List NoteParts) × (k : KeptFault) × IsReplayed form texts head s kept issued notes × IsOfPlace head mark birth × (why ≡ fault.Kept k)

  -- Why the journal in this file isn't opened: the file is refused as a journal; or its entries are, as those of a replica; or what closes
  -- what was open isn't kept.
  abbrev pub IsOpenFault : (file mark : List ℕ) → (birth : Option (List ℕ)) → OpenFault → Type 0
  IsOpenFault file mark birth why = ((j : JournalFault) × (why ≡ fault.Journal j) × IsReason j file)
      ⊎ ((texts : List (List ℕ)) × Stands texts file × (IsRefused texts mark birth why ⊎ IsUnkept texts mark birth why))
