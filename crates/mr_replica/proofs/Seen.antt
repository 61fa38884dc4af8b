-- A step of a replica is a step of what is seen of it. There the values of the form are their meanings, so one knowledge is
-- one value; what the form says of a value beyond its meaning, one step asks of one value alone, and that is fixed.
use Rattle.std.proofs.Common.{◌≡◌, ◌≢◌, refl, sym, ap, subst, Bool, List, [], ◌∷◌, Option, None, Result, Err, inl, inr, arith}
use Rattle.mr_replica.proofs.Names.{All, All-weaker, Answer, Answers, ArePartsThat, ArePiecesOf, AreSame, Body, Changes, Create, CutIn, CutOut, DescentParts}
use Rattle.mr_replica.proofs.Names.{Edit, Ends, EndsSession, Event, FirstFault, Fits, Form, Frame, Full, HasFault, HasHoleyPart, IsAskOf, IsByMeaning, Keeps}
use Rattle.mr_replica.proofs.Names.{KeepsHoley, Mode, Next, OutOfMemory, Pairs, Part, Partial, Piece, Pull, Question, Receive, Refusal, RefusesLate, Release}
use Rattle.mr_replica.proofs.Names.{Reply, Retire, Rev, Sent, Session, State, Steps, TakesBody, TakesFrame, TakesLine, TooManyHoles, TooManyItems, Vouch}
use Rattle.mr_replica.proofs.Names.{Wanted, Wanted.Knowledge, Wanted.Vector, entering, first_refusal, line_of, mode_for, seen, session_for, wanted_by}
use Rattle.mr_replica.proofs.Names.{wanted_by_body, wanted_by_end, wanted_by_frame}
use Rattle.mr_wire.specs.declared.frame.Frame.TheVariants as frame
use Rattle.mr_wire.specs.declared.frame.Body.TheVariants as body
use Rattle.mr_replica.specs.declared.event.Reply.TheVariants as reply
use Rattle.mr_replica.proofs.Replies.{GoesOn}

-- ---- predicates of parts

parts_as : (P Q : Part → Type 0) → ((p : Part) → P p → Q p) → ((p : Part) → Q p → P p) → (parts : List Part) → ArePartsThat P parts → ArePartsThat Q parts
parts_as P Q to back parts h = grind (arith, All-weaker)

pieces_as : (P Q : Part → Type 0) → ((p : Part) → P p → Q p) → ((p : Part) → Q p → P p) → (pieces : List Piece) → ArePiecesOf P pieces → ArePiecesOf Q pieces
pieces_as P Q to back pieces h = record { parts = h.parts; are_parts = parts_as P Q to back h.parts h.are_parts; by_part = h.by_part }

holey_as : (P Q : Part → Type 0) → ((p : Part) → P p → Q p) → HasHoleyPart P → HasHoleyPart Q
holey_as P Q to h = (h.0, to h.0 h.1, h.2)

module _ {K : Type 0} (form : Form K) where
  -- a part of some value that knows this
  pub record IsPartOf (pairs : Pairs) (p : Part) : Type 0 where
    pub value : K
    pub same : AreSame (form.known value) pairs
    pub is : form.is_part value p

  -- the form whose values are their meanings, and which chooses as this value does
  abbrev pub by_meaning : K → Form Pairs
  by_meaning k = record {
    known = λ pairs. pairs;
    is_part = IsPartOf;
    learns_for_all = λ _. form.learns_for_all k;
    firsts_for_all = λ _. form.firsts_for_all k;
    has_too_many_holes = form.has_too_many_holes;
    has_too_many_items = form.has_too_many_items;
  }

module _ {K : Type 0} (form : Form K) (told : IsByMeaning form) where
  part_to : (k : K) (p : Part) → form.is_part k p → IsPartOf form (form.known k) p
  part_to k p is = record { value = k; same = λ i v. refl; is = is }

  part_back : (k : K) (p : Part) → IsPartOf form (form.known k) p → form.is_part k p
  part_back k p h = told.parts h.value k h.same p h.is

  -- ---- what is wanted

  fits_seen : (k : K) (w : Wanted) → Fits form w → Fits (by_meaning form k) w
  fits_seen k w h = grind arith

  all_fit : (k : K) (ws : List Wanted) → All (Fits form) ws → All (Fits (by_meaning form k)) ws
  all_fit k ws h = All-weaker (Fits form) (Fits (by_meaning form k)) (fits_seen k) ws h

  fault_seen : (k : K) (e : Refusal) (w : Wanted) → HasFault form e w → HasFault (by_meaning form k) e w
  fault_seen k TooManyHoles (Vector set) h = h
  fault_seen k TooManyHoles (Knowledge pairs) h = h
  fault_seen k TooManyItems (Knowledge pairs) h = h
  fault_seen k TooManyItems (Vector set) h = absurd h
  fault_seen k e w h = grind arith

  first_seen : (k : K) (e : Refusal) (ws : List Wanted) → FirstFault form e ws → FirstFault (by_meaning form k) e ws
  first_seen k e [] h = h
  first_seen k e (w ∷ ws) (inl here) = inl (fault_seen k e w here)
  first_seen k e (w ∷ ws) (inr later) = inr (fits_seen k w later.0, first_seen k e ws later.1)

  -- ---- what a step changes

  line_seen : (s : State K) (sent : Sent) (line : DescentParts) (comer : Option Rev) (told : Reply) (new : State K) → TakesLine form s sent line comer told new → TakesLine (by_meaning form s.knowledge) (seen form s) sent line comer told (seen form new)
  line_seen s sent line comer reply.Known new h = (h.0, ap (seen form) h.1)
  line_seen s sent line comer reply.Took new h = (h.0, h.1, ap (seen form) h.2)
  line_seen s sent line comer told new h = grind arith

  ends_seen : (s : State K) (sent : Sent) (session : Session) (full : Bool) (new : State K) → Ends form s sent session full new → Ends (by_meaning form s.knowledge) (seen form s) sent session full (seen form new)
  ends_seen s sent session full new h = grind arith

  session_seen : (s : State K) (sent : Sent) (session : Option Session) (new : State K) → EndsSession form s sent session new → EndsSession (by_meaning form s.knowledge) (seen form s) sent session (seen form new)
  session_seen s sent session new h = grind (arith, ends_seen)

  body_seen : (s : State K) (sent : Sent) (b : Body) (told : Reply) (new : State K) → TakesBody form s sent b told new → TakesBody (by_meaning form s.knowledge) (seen form s) sent b told (seen form new)
  body_seen s sent (body.Item r) told new h = line_seen s sent (line_of r) (entering s (body.Item r)) told new h
  body_seen s sent (body.MoveOut line) told new h = line_seen s sent line None told new h
  body_seen s sent body.End reply.Finished new h = session_seen s sent (session_for s sent) new h
  body_seen s sent body.End told new h = absurd h
  body_seen s sent b reply.Took new h = ap (seen form) h
  body_seen s sent b told new h = grind (arith, line_seen, session_seen)

  frame_seen : (s : State K) (f : Frame) (told : Reply) (new : State K) → TakesFrame form s f told new → TakesFrame (by_meaning form s.knowledge) (seen form s) f told (seen form new)
  frame_seen s (frame.Record sent) told new h = body_seen s sent sent.body told new h
  frame_seen s f told new h = grind (arith, body_seen)

  ask_seen : (s : State K) (ask : Question) → IsAskOf form s ask → IsAskOf (by_meaning form s.knowledge) (seen form s) ask
  ask_seen s ask h = record {
    target = h.target;
    session = h.session;
    filter = h.filter;
    fragments = record {
      fragments = h.fragments.fragments;
      are = pieces_as (form.is_part s.knowledge) (IsPartOf form (form.known s.knowledge)) (part_to s.knowledge) (part_back s.knowledge) _ h.fragments.are;
      have = h.fragments.have;
      longest = h.fragments.longest;
    };
    few = λ holey. h.few (holey_as (IsPartOf form (form.known s.knowledge)) (form.is_part s.knowledge) (part_back s.knowledge) holey);
  }

  keeps_seen : (mode : Mode) (k : K) (know : List Piece) → Keeps form mode k know → Keeps (by_meaning form k) mode (form.known k) know
  keeps_seen Full k know h = (pieces_as (form.is_part k) (IsPartOf form (form.known k)) (part_to k) (part_back k) know h.0, h.1)
  keeps_seen Partial k know h = h

  holey_seen : (mode : Mode) (k : K) → KeepsHoley form mode k → KeepsHoley (by_meaning form k) mode (form.known k)
  holey_seen mode k h = grind (arith, holey_as, part_to)

  change_seen : (s : State K) (event : Event) (told : Reply) (new : State K) → Changes form s event told new → Changes (by_meaning form s.knowledge) (seen form s) event told (seen form new)
  change_seen s (Create message) (reply.Issued v) new h = (h.0, h.1, h.2, h.3, ap (seen form) h.4)
  change_seen s (Edit bases message) (reply.Issued v) new h = (h.0, h.1, h.2, h.3, ap (seen form) h.4)
  change_seen s Retire reply.Done new h = ap (seen form) h
  change_seen s Pull (reply.Asked question) new h = (ask_seen s question h.0, ap (seen form) h.1)
  change_seen s (Receive f) told new h = frame_seen s f told new h
  change_seen s (CutIn session) reply.Done new h = ap (seen form) h
  change_seen s (Answer question) (reply.Streaming stream) new h = (h.0, h.1, keeps_seen (mode_for s question) s.knowledge h.1 h.2, ap (seen form) h.3)
  change_seen s (Next stream) (reply.Gave sent) new h = (h.0, h.1, ap (seen form) h.2)
  change_seen s (CutOut stream) reply.Done new h = ap (seen form) h
  change_seen s (Vouch version) (reply.Vouched receipt) new h = (h.0, ap (seen form) h.1)
  change_seen s (Release receipt) reply.Done new h = ap (seen form) h
  change_seen s event told new h = grind (arith, ask_seen, frame_seen, keeps_seen)

  -- ---- what it wants, and how it is refused

  wanted_end : (s : State K) (session : Option Session) → wanted_by_end (by_meaning form s.knowledge) (seen form s) session ≡ wanted_by_end form s session
  wanted_end s session = grind arith

  wanted_body : (s : State K) (sent : Sent) (b : Body) → wanted_by_body (by_meaning form s.knowledge) (seen form s) sent b ≡ wanted_by_body form s sent b
  wanted_body s sent body.End = wanted_end s (session_for s sent)
  wanted_body s sent b = grind (arith, wanted_end)

  wanted_frame : (s : State K) (f : Frame) → wanted_by_frame (by_meaning form s.knowledge) (seen form s) f ≡ wanted_by_frame form s f
  wanted_frame s (frame.Record sent) = wanted_body s sent sent.body
  wanted_frame s f = grind (arith, wanted_body)

  wanted_seen : (s : State K) (event : Event) → wanted_by (by_meaning form s.knowledge) (seen form s) event ≡ wanted_by form s event
  wanted_seen s (Receive f) = wanted_frame s f
  wanted_seen s event = grind (arith, wanted_frame)

  fits_of : (s : State K) (event : Event) → All (Fits form) (wanted_by form s event) → All (Fits (by_meaning form s.knowledge)) (wanted_by (by_meaning form s.knowledge) (seen form s) event)
  fits_of s event h = subst (All (Fits (by_meaning form s.knowledge))) (sym (wanted_seen s event)) (all_fit s.knowledge (wanted_by form s event) h)

  first_of_seen : (s : State K) (event : Event) (e : Refusal) → FirstFault form e (wanted_by form s event) → FirstFault (by_meaning form s.knowledge) e (wanted_by (by_meaning form s.knowledge) (seen form s) event)
  first_of_seen s event e h = subst (FirstFault (by_meaning form s.knowledge) e) (sym (wanted_seen s event)) (first_seen s.knowledge e (wanted_by form s event) h)

  -- a refusal for another reason than want of memory
  late_seen : (s : State K) (event : Event) (e : Refusal) → e ≢ OutOfMemory → RefusesLate form s event e → RefusesLate (by_meaning form s.knowledge) (seen form s) event e
  late_seen s event OutOfMemory ne h = absurd (ne refl)
  late_seen s Pull TooManyHoles ne h = holey_as (form.is_part s.knowledge) (IsPartOf form (form.known s.knowledge)) (part_to s.knowledge) h
  late_seen s Pull e ne h = absurd h
  late_seen s (Answer question) TooManyHoles ne h = holey_seen (mode_for s question) s.knowledge h
  late_seen s (Answer question) e ne h = absurd h
  late_seen s event e ne h = grind (arith, holey_as, part_to, holey_seen, first_of_seen)

  -- ---- the step

  answers_seen : (s : State K) (event : Event) (answer : Result Reply Refusal) (new : State K) → answer ≢ Err OutOfMemory → Answers form s event answer new → Answers (by_meaning form s.knowledge) (seen form s) event answer (seen form new)
  answers_seen s event answer new ne h = grind (arith, fits_of, change_seen, late_seen)

  refusal_seen : (s : State K) (event : Event) → first_refusal (seen form s) event ≡ first_refusal s event
  refusal_seen s (Edit [] message) = refl
  refusal_seen s (Edit (b ∷ bs) message) = refl
  refusal_seen s (Receive (frame.Record sent)) = by_body sent.body
    where
      by_body : (b : Body) → first_refusal (seen form s) (Receive (frame.Record (record sent { body = b }))) ≡ first_refusal s (Receive (frame.Record (record sent { body = b })))
      by_body b = refl
  refusal_seen s event = grind arith

  goes_seen : (s : State K) (event : Event) (first : Option Refusal) (answer : Result Reply Refusal) (new : State K) → answer ≢ Err OutOfMemory → GoesOn form s event first answer new → GoesOn (by_meaning form s.knowledge) (seen form s) event first answer (seen form new)
  goes_seen s event first answer new ne h = grind (arith, answers_seen)

  -- a step, memory aside, is one of what is seen
  pub step_seen : (s : State K) (event : Event) (answer : Result Reply Refusal) (new : State K) → answer ≢ Err OutOfMemory → Steps form s event answer new → Steps (by_meaning form s.knowledge) (seen form s) event answer (seen form new)
  step_seen s event answer new ne h = grind (arith, refusal_seen, goes_seen)
