-- a device as C sees it
use Rattle.std.specs.Prelude.{◌≡◌, ◌==◌, ℕ, ℤ, Bool, true, false, if◌then◌else◌, List, length, Option, Some, None, Result, Ok, Err}
use Rattle.std.specs.Global.{Vec}
use Rattle.mr_feed.specs.declared.entry.Entry.{Entry}
use Rattle.mr_feed.specs.declared.entry.Entry.TheVariants.{Added, Dropped}
use Rattle.mr_itemset.specs.Sparing.{sparing_form}
use Rattle.mr_madewith.specs.Revision.{Rev}
use Rattle.mr_mail.specs.Mail.{Mail}
use Rattle.mr_replica.specs.State.{State, held}
use Rattle.mr_itemset.specs.Normal.{Normal}
use Rattle.mr_replica.specs.declared.event.Event.{Event}
use Rattle.mr_session.specs.Table.{open_numbers}
use Rattle.mr_desk.specs.Device.{frame_of as device_frame}
use Rattle.mr_desk.specs.Fault.{Reads}
use Rattle.mr_desk.specs.Frames.{any_frame, frame_fault, BeginsFrame, ClaimsIn}
use Rattle.mr_desk.specs.Log.{GivesBytes}
use Rattle.mr_desk.specs.Version.{numbers_of, named_by, version_fault}
use Rattle.mr_desk.specs.declared.call.VersionNumbers.{VersionNumbers}
use Rattle.mr_desk.specs.declared.device.Device.{Device}
use Rattle.mr_desk.specs.declared.fault.Fault.{Fault}
use Rattle.mr_desk.specs.declared.fault.Fault.TheVariants as fault
use Rattle.mr_desk.specs.declared.frames.Claim.{Claim}
use Rattle.mr_c.specs.Given.{at_place, built, by_desk, read_by, read_of, read_open, IsFilled, IsGiven}
use Rattle.mr_c.specs.declared.failure.Failure.{Failure}
use Rattle.mr_c.specs.declared.failure.Failure.TheVariants.{NotThere, Desk}
use Rattle.mr_c.specs.declared.places.Held.{Held}
use Rattle.mr_c.specs.declared.places.Change.{Change}
use Rattle.mr_c.specs.declared.places.Counts.{Counts}
use Rattle.mr_c.specs.declared.messages.Card.{Card}

-- 1 for yes
abbrev pub bit : Bool → ℕ
bit true = 1
bit false = 0

-- ---- what is held, and what changed

abbrev pub shown_held : Rev → Held
shown_held r = record { item = numbers_of r.item; version = numbers_of r.version }

abbrev pub shown_change : Entry → Change
shown_change (Added item version card) = record { entered = 1; item = numbers_of item; version = numbers_of version }
shown_change (Dropped item version) = record { entered = 0; item = numbers_of item; version = numbers_of version }

abbrev pub head_at : Option Device → ℕ → Result Held Failure
head_at device place = read_by (λ s. at_place shown_held s.heads place) device

abbrev pub push_out_at : Option Device → ℕ → Result Held Failure
push_out_at device place = read_by (λ s. at_place shown_held s.push_outs place) device

abbrev pub change_at : Option Device → ℕ → Result Change Failure
change_at device place = read_by (λ s. at_place shown_change s.feed place) device

abbrev pub counts_of : Option Device → Result Counts Failure
counts_of device = read_by (λ s. Ok (record { heads = length s.heads; push_outs = length s.push_outs; changes = length s.feed; events = length s.log })) device

abbrev pub retired : Option Device → Result ℕ Failure
retired device = read_by (λ s. Ok (bit s.is_retired)) device

-- ---- versions by their numbers

-- what is read of a version, where the numbers are those of one
abbrev pub of_version : {X : Type 0} → VersionNumbers → Result X Failure → Result X Failure
of_version n found = elim (version_fault n) [
  | Some f ↦ Err (Desk (fault.Version f))
  | None ↦ found
]

-- whether the version is known for the item
abbrev pub known_in : State Normal → VersionNumbers → VersionNumbers → Result ℕ Failure
known_in s item version = of_version item (of_version version (Ok (bit (sparing_form.known s.knowledge (named_by item) (named_by version)))))

abbrev pub known : Option Device → VersionNumbers → VersionNumbers → Result ℕ Failure
known device item version = read_by (λ s. known_in s item version) device

-- ---- messages

-- the message of a held version
abbrev pub message_of : State Normal → VersionNumbers → Result Mail Failure
message_of s version = of_version version (elim (held s (named_by version)) [
  | Some r ↦ Ok r.message
  | None ↦ Err NotThere
])

-- its sender, its subject and its body, by number
abbrev pub part_of : ℕ → Mail → Result (List ℕ) Failure
part_of part mail =
    if part == 0 then Ok mail.from
    else (if part == 1 then Ok mail.subject
    else (if part == 2 then Ok mail.body
    else Err NotThere))

abbrev pub part_in : State Normal → VersionNumbers → ℕ → Result (List ℕ) Failure
part_in s version part = read_of (part_of part) (message_of s version)

abbrev pub label_in : State Normal → VersionNumbers → ℕ → Result (List ℕ) Failure
label_in s version place = read_of (λ mail. at_place (λ label. label) mail.labels place) (message_of s version)

-- how many labels, its flags and its day
abbrev pub shown_card : Mail → Card
shown_card mail = record { labels = length mail.labels; flags = mail.flags; day = mail.day }

abbrev pub card_in : State Normal → VersionNumbers → Result Card Failure
card_in s version = read_of (λ mail. Ok (shown_card mail)) (message_of s version)

abbrev pub part_at : Option Device → VersionNumbers → ℕ → Result (List ℕ) Failure
part_at device version part = read_by (λ s. part_in s version part) device

abbrev pub label_at : Option Device → VersionNumbers → ℕ → Result (List ℕ) Failure
label_at device version place = read_by (λ s. label_in s version place) device

abbrev pub card_at : Option Device → VersionNumbers → Result Card Failure
card_at device version = read_by (λ s. card_in s version) device

-- ---- lists that want memory

abbrev pub frame_of : Option Device → Result (List ℕ) Failure
frame_of device = read_open (λ d. by_desk (device_frame d)) device

-- the numbers of the open sessions and streams
abbrev pub sessions_of : Option Device → Result (List ℕ) Failure
sessions_of device = read_by (λ s. Ok (open_numbers s.sessions)) device

abbrev pub streams_of : Option Device → Result (List ℕ) Failure
streams_of device = read_by (λ s. Ok (open_numbers s.streams)) device

-- What is given is what there is, or want of memory where there is something.
abbrev pub InMemory : {X : Type 0} → Result (List X) Failure → Result (List X) Failure → Type 0
InMemory (Ok there) (Ok found) = found ≡ there
InMemory (Ok there) (Err failure) = failure ≡ Desk fault.OutOfMemory
InMemory (Err there) found = found ≡ Err there

-- The numbers are put into the buffer, or memory was wanting.
abbrev pub GivesNumbers : {X : Type 0} → Result (List X) Failure → (old new : List X) → (old_len new_len : ℕ) → ℤ → Type 0
GivesNumbers {X} there old new old_len new_len code = (found : Result (Vec X) Failure) × InMemory there (built found) × IsFilled (built found) old new old_len new_len code

abbrev pub at_event : List Event → ℕ → Result Event Failure
at_event log place = at_place (λ e. e) log place

abbrev pub event_at : Option Device → ℕ → Result Event Failure
event_at device place = read_by (λ s. at_event s.log place) device

-- the bytes of an event, or why it has none
abbrev pub SpellsFound : Result Event Failure → Result (Vec ℕ) Failure → Type 0
SpellsFound (Ok event) (Ok bytes) = GivesBytes event (Ok bytes)
SpellsFound (Ok event) (Err (Desk fault)) = GivesBytes event (Err fault)
SpellsFound (Ok event) (Err failure) = ⊥
SpellsFound (Err failure) found = found ≡ Err failure

-- The bytes are put into the buffer, or the answer says why there are none.
abbrev pub GivesEvent : Result Event Failure → (old new : List ℕ) → (old_len new_len : ℕ) → ℤ → Type 0
GivesEvent event old new old_len new_len code = (found : Result (Vec ℕ) Failure) × SpellsFound event found × IsFilled (built found) old new old_len new_len code

-- ---- frames

-- What the frame claims is given, or why the bytes are none.
abbrev pub GivesClaim : List ℕ → (old new : Claim) → ℤ → Type 0
GivesClaim bytes old new code = (found : Result Claim Fault) × Reads (BeginsFrame bytes) (frame_fault any_frame bytes) (ClaimsIn bytes) found × IsGiven (by_desk found) old new code
