-- the entries of events, and how many versions were issued by then
use Rattle.std.specs.Prelude.{◌≡◌, ◌+◌, ◌≤◌, ◌++◌, ◌==◌, ℕ, List, [], ◌∷◌, if◌then◌else◌, length, map}
use Rattle.std.specs.List.{AllByRecursion, flat_map}
use Rattle.mr_replica.specs.declared.event.Event.{Event}
use Rattle.mr_replica.specs.declared.event.Event.TheVariants.{Create, Edit, Retire, Pull, Receive, CutIn, Answer, Next, CutOut, Vouch, Release}
use Rattle.mr_replica.specs.declared.replica.TheConstants.{MAX_EVENTS}
use Rattle.mr_entry.specs.Events.{events_of, events_of_entry}
use Rattle.mr_entry.specs.Grammar.{IsEntry}
use Rattle.mr_entry.specs.Note.{NoteParts}
use Rattle.mr_entry.specs.Spelling.{entry_bytes}
use Rattle.mr_entry.specs.declared.entry.Entry.{Entry}
use Rattle.mr_entry.specs.declared.entry.Entry.TheVariants as entry

-- how many versions were issued once the event was admitted: a Create and an Edit issue one
abbrev pub counted : ℕ → Event → ℕ
counted issued (Create message) = issued + 1
counted issued (Edit bases message) = issued + 1
counted issued Retire = issued
counted issued Pull = issued
counted issued (Receive frame) = issued
counted issued (CutIn session) = issued
counted issued (Answer ask) = issued
counted issued (Next stream) = issued
counted issued (CutOut stream) = issued
counted issued (Vouch version) = issued
counted issued (Release receipt) = issued

-- how many versions were issued once all of these events were admitted
abbrev pub issued_after : ℕ → List Event → ℕ
issued_after issued [] = issued
issued_after issued (event ∷ events) = issued_after (counted issued event) events

-- A Next of the stream, and behind it these entries: it joins the run of its stream that stands first there, or is a run of its own.
abbrev pub with_next : ℕ → List Entry → List Entry
with_next stream (entry.Nexts other count ∷ behind) =
    if other == stream then entry.Nexts stream (count + 1) ∷ behind else entry.Nexts stream 1 ∷ entry.Nexts other count ∷ behind
with_next stream entries = entry.Nexts stream 1 ∷ entries

-- an event behind so many issued versions, and behind it these entries: a Next is in a run, another event is an entry with its count
abbrev pub with_event : ℕ → Event → List Entry → List Entry
with_event issued (Next stream) behind = with_next stream behind
with_event issued event behind = entry.Event (counted issued event) event ∷ behind

-- the entries of events behind so many issued versions: the Nexts of one stream that stand in a row are one entry, each other event is one
abbrev pub entries_of : ℕ → List Event → List Entry
entries_of issued [] = []
entries_of issued (event ∷ events) = with_event issued event (entries_of (counted issued event) events)

-- Behind so many issued versions the entry belongs: it is no head, and of an event the count is the one that the events up to it make.
abbrev pub Belongs : ℕ → Entry → Type 0
Belongs issued (entry.Head h) = ⊥
Belongs issued (entry.Event count event) = count ≡ counted issued event
Belongs issued (entry.Nexts stream count) = Unit {0}
Belongs issued (entry.Note n) = Unit {0}

-- each of the entries belongs behind those before it
abbrev pub AllBelong : ℕ → List Entry → Type 0
AllBelong issued [] = Unit {0}
AllBelong issued (x ∷ xs) = Belongs issued x × AllBelong (issued_after issued (events_of_entry x)) xs

-- they stand behind a head: each belongs where it stands, and they tell no more events than a log may have
pub record AreInOrder (entries : List Entry) : Type 0 where
  pub belong : AllBelong 0 entries
  pub few : length (events_of entries) ≤ MAX_EVENTS + 1

-- the notes of one entry
abbrev pub notes_of_entry : Entry → List NoteParts
notes_of_entry (entry.Head h) = []
notes_of_entry (entry.Event count event) = []
notes_of_entry (entry.Nexts stream count) = []
notes_of_entry (entry.Note n) = n ∷ []

-- the notes of entries, in their order
abbrev pub notes_of : List Entry → List NoteParts
notes_of entries = flat_map notes_of_entry entries

-- the entries of events behind so many issued versions, and behind them those of notes
abbrev pub batch_entries : ℕ → List Event → List NoteParts → List Entry
batch_entries issued events notes = entries_of issued events ++ map entry.Note notes

-- the byte strings are these entries, one for each
pub record AreSpelled (entries : List Entry) (texts : List (List ℕ)) : Type 0 where
  pub in_grammar : AllByRecursion IsEntry entries
  pub written : texts ≡ map entry_bytes entries
