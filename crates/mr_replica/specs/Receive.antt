-- Receive: a session takes a record of the stream that it asked for.
use Rattle.std.specs.Prelude.{◌≡◌, ◌==◌, Bool, true, false, not, ◌&&◌, if◌then◌else◌, Option, Some, None, List, [], ◌∷◌, filter}
use Rattle.std.specs.Option.{option_map}
use Rattle.mr_forms.specs.Known.{Pairs, Form, AreSame, learned_of, learned_with, with_pairs}
use Rattle.mr_concise.specs.AnyOf.{in_any}
use Rattle.mr_concise.specs.Vector.{vector_has}
use Rattle.mr_madewith.specs.Revision.{Rev}
use Rattle.mr_store.specs.Revisions.{entered, supersedes, left_by}
use Rattle.mr_wire.specs.Values.{DescentParts, Piece}
use Rattle.mr_wire.specs.Frames.{Sent}
use Rattle.mr_wire.specs.declared.frame.Frame.{Frame}
use Rattle.mr_wire.specs.declared.frame.Frame.TheVariants.{Ask, Record, Receipt}
use Rattle.mr_wire.specs.declared.frame.Body.{Body}
use Rattle.mr_wire.specs.declared.frame.Body.TheVariants.{Item, MoveOut, End}
use Rattle.mr_session.specs.Session.{Session, first_fault, is_full, with_taken}
use Rattle.mr_session.specs.Stream.{claimed, is_end}
use Rattle.mr_session.specs.Table.{open_at, with_closed}
use Rattle.mr_replica.specs.State.{State}
use Rattle.mr_replica.specs.Refusal.{◌orelse◌, refused_if, refusal_of_session}
use Rattle.mr_replica.specs.Admission.{retired, log_full}
use Rattle.mr_replica.specs.Forged.{line_of, is_forged}
use Rattle.mr_replica.specs.Issue.{Wanted, Wanted.Knowledge, is_selected, logged, told_more}
use Rattle.mr_replica.specs.declared.event.Event.TheVariants.{Receive}
use Rattle.mr_replica.specs.declared.event.Reply.{Reply}
use Rattle.mr_replica.specs.declared.event.Reply.TheVariants.{Took, Known, Finished}
use Rattle.mr_replica.specs.declared.refusal.Refusal.{Refusal}
use Rattle.mr_replica.specs.declared.refusal.Refusal.TheVariants.{NotForMe, NoSession, NotARecord, Forged}

-- ---- refusals

-- the session must be open, and the record its next
abbrev pub session_refusal : Option Session → Sent → Option Refusal
session_refusal None sent = Some NoSession
session_refusal (Some session) sent = option_map refusal_of_session (first_fault session.origin session.next sent)

-- ---- words

-- the revisions with this one at its place, where there is one
abbrev pub arrived : Option Rev → List Rev → List Rev
arrived None rs = rs
arrived (Some r) rs = entered r rs

abbrev pub arrival_alone : Option Rev → List Rev
arrival_alone None = []
arrival_alone (Some r) = r ∷ []

-- the fragments cover it, and the source did not hold it
abbrev pub is_unheld : Session → Rev → Bool
is_unheld session r = claimed session.know r.item r.version && not (in_any vector_has session.held r.version)

-- the knowledge after each of the fragments is merged
abbrev pub merged_by : Pairs → List Piece → List Wanted
merged_by known [] = []
merged_by known (piece ∷ pieces) = Knowledge (with_pairs known (claimed (piece ∷ []))) ∷ merged_by (with_pairs known (claimed (piece ∷ []))) pieces

-- whether a session is there, and full
abbrev pub has_full : Option Session → Bool
has_full None = false
has_full (Some session) = is_full session.origin

module _ {K : Type 0} where
  -- the session that a record is for
  abbrev pub session_for : State K → Sent → Option Session
  session_for s sent = open_at s.sessions sent.header.session

  -- why a record is not taken
  abbrev pub record_refusal : State K → Sent → Option Refusal
  record_refusal s sent =
      refused_if (not (sent.header.target == s.id)) NotForMe orelse session_refusal (session_for s sent) sent orelse refused_if (is_forged s sent.body) Forged orelse log_full s

  -- why it is refused: a request or a receipt is no record
  abbrev pub receive_refusal : State K → Frame → Option Refusal
  receive_refusal s (Record sent) = retired s orelse record_refusal s sent
  receive_refusal s (Ask question) = retired s orelse Some NotARecord
  receive_refusal s (Receipt receipt) = retired s orelse Some NotARecord

  -- ---- what it changes

  -- the session has taken the record, by the event
  abbrev pub moved_on : State K → Sent → State K
  moved_on s sent = logged (record s { sessions = with_taken sent s.sessions }) (Receive (Record sent))

  -- the session is closed, by the event
  abbrev pub finished : State K → Sent → State K
  finished s sent = logged (record s { sessions = with_closed s.sessions sent.header.session }) (Receive (Record sent))

  -- ---- a version is told

  -- the pairs with the version and what it supersedes
  abbrev pub line_learned : Form K → State K → DescentParts → Pairs
  line_learned form s line = learned_with form s.knowledge line.item line.version (vector_has line.below)

  -- What the version supersedes leaves the heads and the push-outs, the revision enters the heads where there is one, and
  -- of either the feed tells what left and entered it.
  abbrev pub learning : State K → K → DescentParts → (comer : Option Rev) → State K
  learning s knowledge line comer = record s {
    knowledge = knowledge;
    heads = arrived comer (left_by line.item (vector_has line.below) s.heads);
    push_outs = left_by line.item (vector_has line.below) s.push_outs;
    feed = told_more s.feed (filter (supersedes line.item (vector_has line.below)) s.heads) (arrival_alone comer);
    push_out_feed = told_more s.push_out_feed (filter (supersedes line.item (vector_has line.below)) s.push_outs) [];
  }

  -- a known version changes nothing; an unknown one is learned with what it supersedes
  abbrev pub TakesLine : Form K → State K → Sent → DescentParts → (comer : Option Rev) → Reply → State K → Type 0
  TakesLine form s sent line comer Known new = (form.known s.knowledge line.item line.version ≡ true) × (new ≡ moved_on s sent)
  TakesLine form s sent line comer Took new =
      (form.known s.knowledge line.item line.version ≡ false) × AreSame (form.known new.knowledge) (line_learned form s line) × (new ≡ moved_on (learning s new.knowledge line comer) sent)
  TakesLine form s sent line comer reply new = ⊥

  -- the revision of an Item enters the heads where the own filter selects it
  abbrev pub entering : State K → Body → Option Rev
  entering s (Item r) = if is_selected s r then Some r else None
  entering s body = None

  -- ---- an End

  -- what is known to be unheld leaves the heads; push-outs stay
  abbrev pub ending : State K → K → Session → State K
  ending s knowledge session = record s {
    knowledge = knowledge;
    heads = filter (λ r. not (is_unheld session r)) s.heads;
    feed = told_more s.feed (filter (is_unheld session) s.heads) [];
  }

  -- a full stream teaches what its fragments cover; a partial one teaches nothing
  abbrev pub Ends : Form K → State K → Sent → Session → Bool → State K → Type 0
  Ends form s sent session true new = AreSame (form.known new.knowledge) (with_pairs (form.known s.knowledge) (claimed session.know)) × (new ≡ finished (ending s new.knowledge session) sent)
  Ends form s sent session false new = new ≡ finished s sent

  abbrev pub EndsSession : Form K → State K → Sent → Option Session → State K → Type 0
  EndsSession form s sent None new = ⊥
  EndsSession form s sent (Some session) new = Ends form s sent session (is_full session.origin) new

  -- ---- all records

  -- the change, by what the record says
  abbrev pub TakesBody : Form K → State K → Sent → Body → Reply → State K → Type 0
  TakesBody form s sent (Item r) reply new = TakesLine form s sent (line_of r) (entering s (Item r)) reply new
  TakesBody form s sent (MoveOut line) reply new = TakesLine form s sent line None reply new
  TakesBody form s sent End Finished new = EndsSession form s sent (session_for s sent) new
  TakesBody form s sent End reply new = ⊥
  TakesBody form s sent body Took new = new ≡ moved_on s sent
  TakesBody form s sent body reply new = ⊥

  abbrev pub TakesFrame : Form K → State K → Frame → Reply → State K → Type 0
  TakesFrame form s (Record sent) reply new = TakesBody form s sent sent.body reply new
  TakesFrame form s frame reply new = ⊥

  -- ---- what it wants

  -- an unknown version is learned, and then with what it supersedes
  abbrev pub wanted_by_line : Form K → State K → DescentParts → List Wanted
  wanted_by_line form s line =
      if form.known s.knowledge line.item line.version then []
      else (Knowledge (learned_of form s.knowledge line.item line.version (vector_has line.below)) ∷ Knowledge (line_learned form s line) ∷ [])

  abbrev pub wanted_by_end : Form K → State K → Option Session → List Wanted
  wanted_by_end form s None = []
  wanted_by_end form s (Some session) = if is_full session.origin then merged_by (form.known s.knowledge) session.know else []

  abbrev pub wanted_by_body : Form K → State K → Sent → Body → List Wanted
  wanted_by_body form s sent (Item r) = wanted_by_line form s (line_of r)
  wanted_by_body form s sent (MoveOut line) = wanted_by_line form s line
  wanted_by_body form s sent End = wanted_by_end form s (session_for s sent)
  wanted_by_body form s sent body = []

  abbrev pub wanted_by_frame : Form K → State K → Frame → List Wanted
  wanted_by_frame form s (Record sent) = wanted_by_body form s sent sent.body
  wanted_by_frame form s frame = []

  -- whether it is the End of a full session, whose fragments are merged one after the other
  abbrev pub merges : State K → Frame → Bool
  merges s (Record sent) = is_end sent.body && has_full (session_for s sent)
  merges s frame = false
