-- what is in the grammar of events and of entries
use Rattle.std.specs.Prelude.{◌≡◌, ◌≤◌, ◌<◌, ◌^◌, ℕ, List, length}
use Rattle.std.specs.List.{AllByRecursion}
use Rattle.mr_wire.specs.declared.decoding.TheConstants.{MAX_REST_BYTES}
use Rattle.mr_wire.specs.declared.frame.Frame.TheVariants as frame
use Rattle.mr_wire.specs.Grammar.{IsItem, IsLetter, IsFrame}
use Rattle.mr_replica.specs.declared.event.Event.{Event}
use Rattle.mr_replica.specs.declared.event.Event.TheVariants.{Create, Edit, Retire, Pull, Receive, CutIn, Answer, Next, CutOut, Vouch, Release}
use Rattle.mr_entry.specs.Head.{IsHead}
use Rattle.mr_entry.specs.Spelling.{rest_bytes, event_bytes, entry_bytes}
use Rattle.mr_entry.specs.declared.entry.Entry.{Entry}
use Rattle.mr_entry.specs.declared.entry.Entry.TheVariants as entry

-- the event is in the grammar: its parts are
abbrev pub IsEvent : Event → Type 0
IsEvent (Create message) = IsLetter message
IsEvent (Edit bases message) = (length bases < 2 ^ 32) × AllByRecursion IsItem bases × IsLetter message
IsEvent Retire = Unit {0}
IsEvent Pull = Unit {0}
IsEvent (Receive f) = IsFrame f
IsEvent (CutIn session) = session < 2 ^ 64
IsEvent (Answer q) = IsFrame (frame.Ask q)
IsEvent (Next stream) = stream < 2 ^ 64
IsEvent (CutOut stream) = stream < 2 ^ 64
IsEvent (Vouch version) = IsItem version
IsEvent (Release r) = IsFrame (frame.Receipt r)

-- the text is the event
pub record SpellsEvent (e : Event) (text : List ℕ) : Type 0 where
  pub in_grammar : IsEvent e
  pub few : length (rest_bytes e) ≤ MAX_REST_BYTES
  pub written : text ≡ event_bytes e

-- the entry is in the grammar: its parts are
abbrev pub IsEntry : Entry → Type 0
IsEntry (entry.Head h) = IsHead h × (length h.filter < 2 ^ 32)
IsEntry (entry.Event issued e) = (issued < 2 ^ 32) × SpellsEvent e (event_bytes e)
IsEntry (entry.Nexts stream count) = (stream < 2 ^ 64) × (count < 2 ^ 32)
IsEntry (entry.Note n) = (n.kind < 256) × (length n.bytes < 2 ^ 32)

-- the text is the entry
pub record Spells (e : Entry) (text : List ℕ) : Type 0 where
  pub in_grammar : IsEntry e
  pub written : text ≡ entry_bytes e
