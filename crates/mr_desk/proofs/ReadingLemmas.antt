-- what is wrong with what is handed over is never a refusal, nor a fault of keeping
use Rattle.std.proofs.Common.{◌≡◌, ◌&&◌, not, ℕ, Bool, true, false, List, length, map, nat_lt, Option, Some, None, Result, Ok, Err, refl, subst}
use Rattle.mr_desk.proofs.Names.{BadLength, BytesBehind, Call, DeskState, Entry, Event, Failed, Fault, Filter, Frame, Hosted, IsEventOf, IsMergeIn}
use Rattle.mr_desk.proofs.Names.{KeptAnswers, KeptMerges, Merge, Message, NeedsMemory, NoConflict, Normal, NotText, Open, OtherDevice, OtherFrame}
use Rattle.mr_desk.proofs.Names.{OutOfMemory, Peer, Reads, Refused, Replay, Rev, State, Stays, TakesMeant, TooLarge, Unsettled, Version, VersionFault}
use Rattle.mr_desk.proofs.Names.{VersionNumbers, Wire, WireFault, any_frame, call_fault, decoded, draft_fault, edit_fault_over, first_version_fault}
use Rattle.mr_desk.proofs.Names.{frame_fault, have_one_content, heads_of, if◌then◌else◌, inside, labels_of, last_under, may_show, merge_fault, merge_fault_in}
use Rattle.mr_desk.proofs.Names.{named_by, of_message, of_wire, only_ask, only_receipt, option_map, said_by, said_together, version_fault, view_of, ◌orelse◌}
use Rattle.std.specs.Str.{is_utf8}
use Rattle.mr_mail.specs.Admits.{first_fault}
use Rattle.mr_mail.specs.declared.fault.MessageFault.{MessageFault}
use Rattle.mr_mail.specs.declared.fault.MessageFault.TheVariants as message
use Rattle.mr_wire.specs.declared.fault.WireFault.TheVariants as wire
use Rattle.mr_wire.specs.declared.frame.Frame.TheVariants as frame
use Rattle.mr_mail.specs.declared.label.TheConstants.{MAX_LABELS}
use Rattle.mr_maildir.specs.Merging.{differ}
use Rattle.mr_maildir.specs.declared.policy.MergeFault.TheVariants.{ContentsDiffer, TooManyLabels}
use Rattle.mr_replica.specs.declared.event.Event.{Event as ReplicaEvent}
use Rattle.mr_desk.specs.Serves.{Answers, Merges, ServesMeant}
use Rattle.mr_desk.specs.declared.call.Call.TheVariants.{Create, Edit, Retire, Pull, Receive, CutIn, Answer, Next, CutOut, Vouch, Release}
use Rattle.mr_desk.specs.declared.call.Draft.{Draft}

-- it is no refusal, nor a fault of keeping, nor that something waits
abbrev IsUnrefused : Option Fault → Type 0
IsUnrefused (Some (Refused refusal)) = ⊥
IsUnrefused (Some Failed) = ⊥
IsUnrefused (Some Unsettled) = ⊥
IsUnrefused (Some TooLarge) = ⊥
IsUnrefused fault = Unit {0}

unrefused-if : (b : Bool) (f g : Option Fault) → IsUnrefused f → IsUnrefused g → IsUnrefused (if b then f else g)
unrefused-if true f g one other = one
unrefused-if false f g one other = other

unrefused-orelse : (f g : Option Fault) → IsUnrefused f → IsUnrefused g → IsUnrefused (f orelse g)
unrefused-orelse None g one other = other
unrefused-orelse (Some f) g one other = one

unrefused-message : (fault : Option MessageFault) → IsUnrefused (option_map of_message fault)
unrefused-message None = tt
unrefused-message (Some message.OutOfMemory) = tt
unrefused-message (Some message.FromTooLong) = tt
unrefused-message (Some message.SubjectTooLong) = tt
unrefused-message (Some message.BodyTooLong) = tt
unrefused-message (Some message.BadLabel) = tt
unrefused-message (Some message.TooManyLabels) = tt
unrefused-message (Some message.BadFlags) = tt

unrefused-version : (fault : Option VersionFault) → IsUnrefused (option_map Version fault)
unrefused-version None = tt
unrefused-version (Some fault) = tt

unrefused-wire : (fault : WireFault) → IsUnrefused (Some (of_wire fault))
unrefused-wire wire.OutOfMemory = tt
unrefused-wire wire.Truncated = tt
unrefused-wire wire.TooLong = tt
unrefused-wire wire.BadFormat = tt
unrefused-wire wire.BadKind = tt
unrefused-wire wire.BadBody = tt

unrefused-draft : (d : Draft) → IsUnrefused (draft_fault d)
unrefused-draft d =
    let fault = first_fault d.from.now d.subject.now d.body.now (labels_of d.labels.now) d.flags in
    unrefused-if (not (is_utf8 d.from.now && (is_utf8 d.subject.now && is_utf8 d.labels.now))) (Some NotText) (option_map of_message fault) tt (unrefused-message fault)

-- a frame that a call doesn't take is none of its kind
unrefused-only_ask : (f : Frame) → IsUnrefused (only_ask f)
unrefused-only_ask (frame.Ask ask) = tt
unrefused-only_ask (frame.Record sent) = tt
unrefused-only_ask (frame.Receipt receipt) = tt

unrefused-only_receipt : (f : Frame) → IsUnrefused (only_receipt f)
unrefused-only_receipt (frame.Ask ask) = tt
unrefused-only_receipt (frame.Record sent) = tt
unrefused-only_receipt (frame.Receipt receipt) = tt

-- the fault of what was decoded of so many bytes
abbrev fault_at : (Frame → Option Fault) → ℕ → Result (Frame × ℕ) WireFault → Option Fault
fault_at only len r = elim r [
  | Ok found ↦ if nat_lt found.1 len then Some BytesBehind else only found.0
  | Err fault ↦ Some (of_wire fault)
]

unrefused-at : (only : Frame → Option Fault) → ((f : Frame) → IsUnrefused (only f)) → (len : ℕ) (r : Result (Frame × ℕ) WireFault) → IsUnrefused (fault_at only len r)
unrefused-at only each len (Ok found) = unrefused-if (nat_lt found.1 len) (Some BytesBehind) (only found.0) tt (each found.0)
unrefused-at only each len (Err fault) = unrefused-wire fault

unrefused-frame : (only : Frame → Option Fault) → ((f : Frame) → IsUnrefused (only f)) → (bytes : List ℕ) → IsUnrefused (frame_fault only bytes)
unrefused-frame only each bytes = unrefused-at only each (length bytes) (decoded bytes)

-- what heads say together
unrefused-heads : (heads : List Rev) (feed : List Entry) → IsUnrefused (edit_fault_over heads feed)
unrefused-heads heads feed =
    let messages = said_by heads in
    let view = said_together (last_under heads feed) messages in
    unrefused-if (not (have_one_content messages)) (Some (Merge ContentsDiffer)) _ tt (unrefused-if (nat_lt MAX_LABELS (length view.labels)) (Some (Merge TooManyLabels)) _ tt (unrefused-if (not (differ (map view_of messages))) (Some NoConflict) None tt tt))

unrefused-call : (call : Call) → IsUnrefused (call_fault call)
unrefused-call (Create draft) = unrefused-draft draft
unrefused-call (Edit bases draft) = unrefused-orelse (draft_fault draft) (option_map Version (first_version_fault bases.now)) (unrefused-draft draft) (unrefused-version (first_version_fault bases.now))
unrefused-call Retire = tt
unrefused-call Pull = tt
unrefused-call (Receive bytes) = unrefused-frame any_frame (λ f. tt) bytes.now
unrefused-call (CutIn session) = tt
unrefused-call (Answer bytes) = unrefused-frame only_ask unrefused-only_ask bytes.now
unrefused-call (Next stream) = tt
unrefused-call (CutOut stream) = tt
unrefused-call (Vouch numbers) = unrefused-version (version_fault numbers)
unrefused-call (Release bytes) = unrefused-frame only_receipt unrefused-only_receipt bytes.now

-- what is wrong with a merge is none either
unrefused-merge : (s : State Normal) (item : VersionNumbers) → IsUnrefused (merge_fault_in s item)
unrefused-merge s item = unrefused-orelse (option_map Version (version_fault item)) (merge_fault s.heads s.feed (named_by item)) (unrefused-version (version_fault item)) (unrefused-heads (heads_of (named_by item) s.heads) s.feed)

-- what can't be read is answered, and the desk stays as it was
answers-wrong : (Wants : Type 0) (wrong : Option Fault) (IsMeant : ReplicaEvent → Type 0) → IsUnrefused wrong → (s : DeskState) (f : Fault) → Reads Wants wrong IsMeant (Err f) → ServesMeant Wants wrong IsMeant s (Err f) s
answers-wrong Wants wrong IsMeant un s OutOfMemory wants = (wants, refl)
answers-wrong Wants wrong IsMeant un s NotText is = (is, refl)
answers-wrong Wants wrong IsMeant un s BytesBehind is = (is, refl)
answers-wrong Wants wrong IsMeant un s OtherFrame is = (is, refl)
answers-wrong Wants wrong IsMeant un s Unsettled is = (is, refl)
answers-wrong Wants wrong IsMeant un s Failed is = (is, refl)
answers-wrong Wants wrong IsMeant un s OtherDevice is = (is, refl)
answers-wrong Wants wrong IsMeant un s TooLarge is = (is, refl)
answers-wrong Wants wrong IsMeant un s BadLength is = (is, refl)
answers-wrong Wants wrong IsMeant un s NoConflict is = (is, refl)
answers-wrong Wants wrong IsMeant un s (Open f) is = (is, refl)
answers-wrong Wants wrong IsMeant un s (Merge f) is = (is, refl)
answers-wrong Wants wrong IsMeant un s (Peer f) is = (is, refl)
answers-wrong Wants wrong IsMeant un s (Version f) is = (is, refl)
answers-wrong Wants wrong IsMeant un s (Message f) is = (is, refl)
answers-wrong Wants wrong IsMeant un s (Filter f) is = (is, refl)
answers-wrong Wants wrong IsMeant un s (Wire f) is = (is, refl)
answers-wrong Wants wrong IsMeant un s (Event f) is = (is, refl)
answers-wrong Wants wrong IsMeant un s (Replay f) is = (is, refl)
answers-wrong Wants wrong IsMeant un s (Refused refusal) is = absurd (subst IsUnrefused is un)

pub answers-unread : (s : DeskState) (call : Call) (f : Fault) → Reads (NeedsMemory call) (call_fault call) (IsEventOf call) (Err f) → Answers s call (Err f) s
answers-unread s call f is = answers-wrong (NeedsMemory call) (call_fault call) (IsEventOf call) (unrefused-call call) s f is

pub merges-unread : (s : DeskState) (item : VersionNumbers) (f : Fault) → Reads (Unit {0}) (merge_fault_in s.replica item) (IsMergeIn s.replica item) (Err f) → Merges s item (Err f) s
merges-unread s item f is = answers-wrong (Unit {0}) (merge_fault_in s.replica item) (IsMergeIn s.replica item) (unrefused-merge s.replica item) s f is

-- a replica whose host writes is as it is
pub stays : {V : Type 0} → (h : Hosted Normal V) → Stays h h
stays h = record {
  replica = refl;
  held_back = refl;
  journal = record { journal = refl; head = refl; kept = refl; issued = refl; notes = refl };
  host = record { done = refl; failed = refl; handed_out_is = refl };
}

-- what can't be read is answered by it too, and it stays as it was
kept-wrong : {V : Type 0} (Wants : Type 0) (wrong : Option Fault) (IsMeant : ReplicaEvent → Type 0) → IsUnrefused wrong → (h : Hosted Normal V) (f : Fault) → Reads Wants wrong IsMeant (Err f) → TakesMeant wrong IsMeant h (Err f) h
kept-wrong Wants wrong IsMeant un h OutOfMemory wants = stays h
kept-wrong Wants wrong IsMeant un h NotText is = (is, stays h)
kept-wrong Wants wrong IsMeant un h BytesBehind is = (is, stays h)
kept-wrong Wants wrong IsMeant un h OtherFrame is = (is, stays h)
kept-wrong Wants wrong IsMeant un h Unsettled is = (is, stays h)
kept-wrong Wants wrong IsMeant un h Failed is = absurd (subst IsUnrefused is un)
kept-wrong Wants wrong IsMeant un h OtherDevice is = (is, stays h)
kept-wrong Wants wrong IsMeant un h TooLarge is = absurd (subst IsUnrefused is un)
kept-wrong Wants wrong IsMeant un h BadLength is = (is, stays h)
kept-wrong Wants wrong IsMeant un h NoConflict is = (is, stays h)
kept-wrong Wants wrong IsMeant un h (Open f) is = (is, stays h)
kept-wrong Wants wrong IsMeant un h (Merge f) is = (is, stays h)
kept-wrong Wants wrong IsMeant un h (Peer f) is = (is, stays h)
kept-wrong Wants wrong IsMeant un h (Version f) is = (is, stays h)
kept-wrong Wants wrong IsMeant un h (Message f) is = (is, stays h)
kept-wrong Wants wrong IsMeant un h (Filter f) is = (is, stays h)
kept-wrong Wants wrong IsMeant un h (Wire f) is = (is, stays h)
kept-wrong Wants wrong IsMeant un h (Event f) is = (is, stays h)
kept-wrong Wants wrong IsMeant un h (Replay f) is = (is, stays h)
kept-wrong Wants wrong IsMeant un h (Refused refusal) is = absurd (subst IsUnrefused is un)

pub kept-unread : {V : Type 0} → (h : Hosted Normal V) (call : Call) (f : Fault) → Reads (NeedsMemory call) (call_fault call) (IsEventOf call) (Err f) → KeptAnswers h call (Err f) h
kept-unread h call f is = kept-wrong (NeedsMemory call) (call_fault call) (IsEventOf call) (unrefused-call call) h f is

-- nor what isn't merged
pub merges-kept-unread : {V : Type 0} → (h : Hosted Normal V) (item : VersionNumbers) (f : Fault) → may_show h ≡ true → Reads (Unit {0}) (merge_fault_in (inside h) item) (IsMergeIn (inside h) item) (Err f) → KeptMerges h item (Err f) h
merges-kept-unread h item OutOfMemory shown is = (shown, kept-wrong (Unit {0}) (merge_fault_in (inside h) item) (IsMergeIn (inside h) item) (unrefused-merge (inside h) item) h OutOfMemory is)
merges-kept-unread h item NotText shown is = (shown, kept-wrong (Unit {0}) (merge_fault_in (inside h) item) (IsMergeIn (inside h) item) (unrefused-merge (inside h) item) h NotText is)
merges-kept-unread h item BytesBehind shown is = (shown, kept-wrong (Unit {0}) (merge_fault_in (inside h) item) (IsMergeIn (inside h) item) (unrefused-merge (inside h) item) h BytesBehind is)
merges-kept-unread h item OtherFrame shown is = (shown, kept-wrong (Unit {0}) (merge_fault_in (inside h) item) (IsMergeIn (inside h) item) (unrefused-merge (inside h) item) h OtherFrame is)
merges-kept-unread h item Unsettled shown is = absurd (subst IsUnrefused is (unrefused-merge (inside h) item))
merges-kept-unread h item Failed shown is = (shown, kept-wrong (Unit {0}) (merge_fault_in (inside h) item) (IsMergeIn (inside h) item) (unrefused-merge (inside h) item) h Failed is)
merges-kept-unread h item OtherDevice shown is = (shown, kept-wrong (Unit {0}) (merge_fault_in (inside h) item) (IsMergeIn (inside h) item) (unrefused-merge (inside h) item) h OtherDevice is)
merges-kept-unread h item TooLarge shown is = (shown, kept-wrong (Unit {0}) (merge_fault_in (inside h) item) (IsMergeIn (inside h) item) (unrefused-merge (inside h) item) h TooLarge is)
merges-kept-unread h item BadLength shown is = (shown, kept-wrong (Unit {0}) (merge_fault_in (inside h) item) (IsMergeIn (inside h) item) (unrefused-merge (inside h) item) h BadLength is)
merges-kept-unread h item NoConflict shown is = (shown, kept-wrong (Unit {0}) (merge_fault_in (inside h) item) (IsMergeIn (inside h) item) (unrefused-merge (inside h) item) h NoConflict is)
merges-kept-unread h item (Open f) shown is = (shown, kept-wrong (Unit {0}) (merge_fault_in (inside h) item) (IsMergeIn (inside h) item) (unrefused-merge (inside h) item) h (Open f) is)
merges-kept-unread h item (Merge f) shown is = (shown, kept-wrong (Unit {0}) (merge_fault_in (inside h) item) (IsMergeIn (inside h) item) (unrefused-merge (inside h) item) h (Merge f) is)
merges-kept-unread h item (Peer f) shown is = (shown, kept-wrong (Unit {0}) (merge_fault_in (inside h) item) (IsMergeIn (inside h) item) (unrefused-merge (inside h) item) h (Peer f) is)
merges-kept-unread h item (Version f) shown is = (shown, kept-wrong (Unit {0}) (merge_fault_in (inside h) item) (IsMergeIn (inside h) item) (unrefused-merge (inside h) item) h (Version f) is)
merges-kept-unread h item (Message f) shown is = (shown, kept-wrong (Unit {0}) (merge_fault_in (inside h) item) (IsMergeIn (inside h) item) (unrefused-merge (inside h) item) h (Message f) is)
merges-kept-unread h item (Filter f) shown is = (shown, kept-wrong (Unit {0}) (merge_fault_in (inside h) item) (IsMergeIn (inside h) item) (unrefused-merge (inside h) item) h (Filter f) is)
merges-kept-unread h item (Wire f) shown is = (shown, kept-wrong (Unit {0}) (merge_fault_in (inside h) item) (IsMergeIn (inside h) item) (unrefused-merge (inside h) item) h (Wire f) is)
merges-kept-unread h item (Event f) shown is = (shown, kept-wrong (Unit {0}) (merge_fault_in (inside h) item) (IsMergeIn (inside h) item) (unrefused-merge (inside h) item) h (Event f) is)
merges-kept-unread h item (Replay f) shown is = (shown, kept-wrong (Unit {0}) (merge_fault_in (inside h) item) (IsMergeIn (inside h) item) (unrefused-merge (inside h) item) h (Replay f) is)
merges-kept-unread h item (Refused refusal) shown is = (shown, kept-wrong (Unit {0}) (merge_fault_in (inside h) item) (IsMergeIn (inside h) item) (unrefused-merge (inside h) item) h (Refused refusal) is)
