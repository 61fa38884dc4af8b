-- over a form with one value for each knowledge a step is a function: its answer and the new replica are decided, memory aside
use Rattle.std.proofs.Common.{◌≡◌, ◌≢◌, refl, sym, ap, ◌∙◌, ℕ, List, [], ◌∷◌, Option, None, Result, Ok, Err, inl, inr, arith}
use Rattle.mr_replica.proofs.Names.{All, All-head, All-tail, Answer, Answers, AreSame, Asked, AuthorColumn, Body, Changes, Create, CutIn, CutOut}
use Rattle.mr_replica.proofs.Names.{DescentParts, Done, Edit, End, EndsSession, Event, Finished, FirstFault, Fits, Form, Frame, Full, Gave, HasFault}
use Rattle.mr_replica.proofs.Names.{HasHoleyPart, IsReceiptFor, Issue, Issued, Issues, Item, Keeps, KeepsHoley, Known, Mode, MoveOut, Name, Next, OutOfMemory}
use Rattle.mr_replica.proofs.Names.{Partial, Piece, Pull, Question, Receipt, Receive, Record, Refusal, RefusesLate, Release, Reply, Retire, Rev, Sent}
use Rattle.mr_replica.proofs.Names.{Session, State, Steps, Stream, Streaming, Table, TakesBody, TakesFrame, TakesLine, TooManyHoles, TooManyItems, Took}
use Rattle.mr_replica.proofs.Names.{Vouch, Vouched, Wanted, Wanted.Knowledge, Wanted.Vector, answering, below_of_issue, columns_unique, created, edited}
use Rattle.mr_replica.proofs.Names.{entering, first_refusal, gives_unique, held_now, issuing, learning, line_of, logged, mode_for, moved_on, receipt_for}
use Rattle.mr_replica.proofs.Names.{revision_for, session_for, wanted_by}
use Rattle.mr_replica.proofs.Kept.{pieces_unique, no_holey}
use Rattle.mr_replica.proofs.Choice.{some_same}
use Rattle.mr_replica.proofs.PullLemmas.{same_ask}
use Rattle.mr_replica.proofs.Replies.{GoesOn}

module _ {K : Type 0} (form : Form K) where
  -- the form has one value for each knowledge: so it is of the form over meanings, and of no form that keeps values
  abbrev pub IsExact : Type 0
  IsExact = (a b : K) → AreSame (form.known a) (form.known b) → a ≡ b

  -- what fits has no fault
  no_fault : (e : Refusal) (w : Wanted) → Fits form w → HasFault form e w → ⊥
  no_fault TooManyHoles (Vector set) fits fault = fits fault
  no_fault TooManyHoles (Knowledge pairs) fits fault = fits.0 fault
  no_fault TooManyItems (Knowledge pairs) fits fault = fits.1 fault.0
  no_fault TooManyItems (Vector set) fits fault = fault
  no_fault e w fits fault = grind arith

  no_first_fault : (e : Refusal) (ws : List Wanted) → All (Fits form) ws → FirstFault form e ws → ⊥
  no_first_fault e [] fits fault = fault
  no_first_fault e (w ∷ ws) fits (inl here) = no_fault e w (All-head (Fits form) w ws fits) here
  no_first_fault e (w ∷ ws) fits (inr later) = no_first_fault e ws (All-tail (Fits form) w ws fits) later.1

  -- what is wanted has one fault
  one_fault : (e f : Refusal) (w : Wanted) → HasFault form e w → HasFault form f w → e ≡ f
  one_fault TooManyHoles TooManyHoles w x y = refl
  one_fault TooManyItems TooManyItems w x y = refl
  one_fault TooManyHoles TooManyItems (Vector set) x y = absurd y
  one_fault TooManyHoles TooManyItems (Knowledge pairs) x y = absurd (y.1 x)
  one_fault TooManyItems TooManyHoles (Vector set) x y = absurd x
  one_fault TooManyItems TooManyHoles (Knowledge pairs) x y = absurd (x.1 y)
  one_fault TooManyHoles f w x y = absurd y
  one_fault TooManyItems f w x y = absurd y
  one_fault e f w x y = grind arith

  one_first_fault : (e f : Refusal) (ws : List Wanted) → FirstFault form e ws → FirstFault form f ws → e ≡ f
  one_first_fault e f [] x y = absurd x
  one_first_fault e f (w ∷ ws) (inl x) (inl y) = one_fault e f w x y
  one_first_fault e f (w ∷ ws) (inl x) (inr y) = absurd (no_fault e w y.0 x)
  one_first_fault e f (w ∷ ws) (inr x) (inl y) = absurd (no_fault f w x.0 y)
  one_first_fault e f (w ∷ ws) (inr x) (inr y) = one_first_fault e f ws x.1 y.1

  -- ---- what a stream keeps

  know_one : (mode : Mode) (k : K) (a b : List Piece) → Keeps form mode k a → Keeps form mode k b → a ≡ b
  know_one Full k a b x y = pieces_unique (form.is_part k) a b x.0 y.0
  know_one Partial k a b x y = x ∙ sym y

  kept_not_holey : (mode : Mode) (k : K) (know : List Piece) → Keeps form mode k know → KeepsHoley form mode k → ⊥
  kept_not_holey Full k know keeps holey = no_holey (form.is_part k) know keeps.0 holey
  kept_not_holey Partial k know keeps holey = holey

  module _ (s : State K) (event : Event) where
    -- an issue has one version and leads to one replica
    same_issue : (i : Issue) (v w : Name) (new other : State K) → IsExact → Issues form s i v event new → Issues form s i w event other → (w ≡ v) × (other ≡ new)
    same_issue i v w new other exact h k =
        let columns : k.1 ≡ h.1 = columns_unique (below_of_issue s i) k.1 h.1 k.2 h.2 in
        let knowledge : other.knowledge ≡ new.knowledge = exact other.knowledge new.knowledge (λ a b. k.3 a b ∙ sym (h.3 a b)) in (
          k.0 ∙ sym h.0,
          k.4
              ∙ ap (λ (c : List AuthorColumn). logged (issuing s other.knowledge (revision_for s i c)) event) columns
              ∙ ap (λ (t : K). logged (issuing s t (revision_for s i h.1)) event) knowledge
              ∙ sym h.4,
        )

  -- what a late refusal tells, but that of memory
  abbrev LateFault : State K → Event → Refusal → Type 0
  LateFault s Pull e = (e ≡ TooManyHoles) × HasHoleyPart (form.is_part s.knowledge)
  LateFault s (Answer ask) e = (e ≡ TooManyHoles) × KeepsHoley form (mode_for s ask) s.knowledge
  LateFault s event e = FirstFault form e (wanted_by form s event)

  late_fault : (s : State K) (event : Event) (e : Refusal) → e ≢ OutOfMemory → RefusesLate form s event e → LateFault s event e
  late_fault s event OutOfMemory ne h = absurd (ne refl)
  late_fault s Pull TooManyHoles ne h = (refl, h)
  late_fault s Pull e ne h = absurd h
  late_fault s (Answer ask) TooManyHoles ne h = (refl, h)
  late_fault s (Answer ask) e ne h = absurd h
  late_fault s event e ne h = grind arith

  one_late_fault : (s : State K) (event : Event) (e f : Refusal) → LateFault s event e → LateFault s event f → e ≡ f
  one_late_fault s Pull e f h k = h.0 ∙ sym k.0
  one_late_fault s (Answer ask) e f h k = h.0 ∙ sym k.0
  one_late_fault s event e f h k = grind (arith, one_first_fault)

  -- what is answered has none
  no_late_fault : (s : State K) (event : Event) (r : Reply) (new : State K) (e : Refusal) → All (Fits form) (wanted_by form s event) → Changes form s event r new → LateFault s event e → ⊥
  no_late_fault s Pull (Asked ask) new e fits change fault = change.0.few fault.1
  no_late_fault s Pull r new e fits change fault = change
  no_late_fault s (Answer ask) (Streaming n) new e fits change fault = kept_not_holey (mode_for s ask) s.knowledge change.1 change.2 fault.1
  no_late_fault s (Answer ask) r new e fits change fault = change
  no_late_fault s event r new e fits change fault = no_first_fault e (wanted_by form s event) fits fault

  streaming_same : (n m : ℕ) → m ≡ n → (let r : Reply = Streaming m in r ≡ Streaming n)
  streaming_same n m is = ap (λ (k : ℕ). Streaming k) is

  issued_same : (v w : Name) → w ≡ v → (let r : Reply = Issued w in r ≡ Issued v)
  issued_same v w is = ap (λ (u : Name). Issued u) is

  gave_same : (a b : Sent) → b ≡ a → (let r : Reply = Gave b in r ≡ Gave a)
  gave_same a b is = ap (λ (x : Sent). Gave x) is

  -- a version has one receipt
  same_receipt : (s : State K) (version : Name) (a b : Receipt) → IsReceiptFor s version a → IsReceiptFor s version b → b ≡ a
  same_receipt s version a b h k = k.2 ∙ ap (λ (r : Rev). receipt_for s.id r) (some_same k.0 h.0 (sym k.1 ∙ h.1)) ∙ sym h.2

  -- ---- a record

  module _ (s : State K) (sent : Sent) (exact : IsExact) where
    -- a version that is told has one reply, and leads to one replica
    same_line : (line : DescentParts) (comer : Option Rev) (r q : Reply) (new other : State K) → TakesLine form s sent line comer r new → TakesLine form s sent line comer q other → (q ≡ r) × (other ≡ new)
    same_line line comer Known Known new other h k = (refl, k.1 ∙ sym h.1)
    same_line line comer Known Took new other h k = cc (sym h.0 ∙ k.0)
    same_line line comer Known q new other h k = absurd k
    same_line line comer Took Known new other h k = cc (sym k.0 ∙ h.0)
    same_line line comer Took Took new other h k =
        let knowledge : other.knowledge ≡ new.knowledge = exact other.knowledge new.knowledge (λ a b. k.1 a b ∙ sym (h.1 a b)) in
        (refl, k.2 ∙ ap (λ (t : K). moved_on (learning s t line comer) sent) knowledge ∙ sym h.2)
    same_line line comer Took q new other h k = absurd k
    same_line line comer r q new other h k = grind arith

    -- the end of a session leads to one replica
    same_end : (session : Option Session) (new other : State K) → EndsSession form s sent session new → EndsSession form s sent session other → other ≡ new
    same_end session new other h k = grind arith

    same_body : (body : Body) (r q : Reply) (new other : State K) → TakesBody form s sent body r new → TakesBody form s sent body q other → (q ≡ r) × (other ≡ new)
    same_body (Item rev) r q new other h k = same_line (line_of rev) (entering s (Item rev)) r q new other h k
    same_body (MoveOut line) r q new other h k = same_line line None r q new other h k
    same_body End Finished Finished new other h k = (refl, same_end (session_for s sent) new other h k)
    same_body End Finished q new other h k = absurd k
    same_body End r q new other h k = absurd h
    same_body body Took Took new other h k = (refl, k ∙ sym h)
    same_body body Took q new other h k = absurd k
    same_body body r q new other h k = grind (arith, same_line, same_end)

  same_taken : (s : State K) (frame : Frame) (r q : Reply) (new other : State K) → IsExact → TakesFrame form s frame r new → TakesFrame form s frame q other → (q ≡ r) × (other ≡ new)
  same_taken s (Record sent) r q new other exact h k = same_body s sent exact sent.body r q new other h k
  same_taken s frame r q new other exact h k = grind (arith, same_body)

  -- a reply stands for one change
  same_change : (s : State K) (event : Event) (r q : Reply) (new other : State K) → IsExact → Changes form s event r new → Changes form s event q other → (q ≡ r) × (other ≡ new)
  same_change s (Create message) (Issued v) (Issued w) new other exact h k =
      let same = same_issue s (Create message) (created s message) v w new other exact h k in
      (issued_same v w same.0, same.1)
  same_change s (Create message) (Issued v) q new other exact h k = absurd k
  same_change s (Edit bases message) (Issued v) (Issued w) new other exact h k =
      let same = same_issue s (Edit bases message) (edited s bases message) v w new other exact h k in
      (issued_same v w same.0, same.1)
  same_change s (Edit bases message) (Issued v) q new other exact h k = absurd k
  same_change s (Vouch version) (Vouched a) (Vouched b) new other exact h k =
      (ap (λ (x : Receipt). Vouched x) (same_receipt s version a b h.0 k.0), k.1 ∙ sym h.1)
  same_change s (Vouch version) (Vouched a) q new other exact h k = absurd k
  same_change s (Answer ask) (Streaming n) (Streaming m) new other exact h k =
      let know : k.1 ≡ h.1 = know_one (mode_for s ask) s.knowledge k.1 h.1 k.2 h.2 in
      (streaming_same n m (k.0 ∙ sym h.0), k.3 ∙ ap (λ (pieces : List Piece). logged (answering s ask pieces) (Answer ask)) know ∙ sym h.3)
  same_change s (Answer ask) (Streaming n) q new other exact h k = absurd k
  same_change s (Receive frame) r q new other exact h k = same_taken s frame r q new other exact h k
  same_change s Retire Done Done new other exact h k = (refl, k ∙ sym h)
  same_change s Retire Done q new other exact h k = absurd k
  same_change s Pull (Asked a) (Asked b) new other exact h k = (ap (λ (q : Question). Asked q) (same_ask form s a b h.0 k.0), k.1 ∙ sym h.1)
  same_change s Pull (Asked a) q new other exact h k = absurd k
  same_change s (CutIn session) Done Done new other exact h k = (refl, k ∙ sym h)
  same_change s (CutIn session) Done q new other exact h k = absurd k
  same_change s (Next stream) (Gave a) (Gave b) new other exact h k =
      let one = gives_unique s.id stream s.streams (held_now s) a b h.0 k.0 h.1 k.1 in
      (gave_same a b one.0, k.2 ∙ ap (λ (t : Table Stream). logged (record s { streams = t }) (Next stream)) one.1 ∙ sym h.2)
  same_change s (Next stream) (Gave a) q new other exact h k = absurd k
  same_change s (CutOut stream) Done Done new other exact h k = (refl, k ∙ sym h)
  same_change s (CutOut stream) Done q new other exact h k = absurd k
  same_change s (Release receipt) Done Done new other exact h k = (refl, k ∙ sym h)
  same_change s (Release receipt) Done q new other exact h k = absurd k
  same_change s event r q new other exact h k = absurd h

  answered : (s : State K) (event : Event) (a b : Result Reply Refusal) (new other : State K) → IsExact → Answers form s event a new → Answers form s event b other → a ≢ Err OutOfMemory → b ≢ Err OutOfMemory → (b ≡ a) × (other ≡ new)
  answered s event (Ok r) (Ok q) new other exact h k na nb =
      let same = same_change s event r q new other exact h.1 k.1 in
      (ap (λ (x : Reply). Ok x) same.0, same.1)
  answered s event (Ok r) (Err f) new other exact h k na nb = absurd (no_late_fault s event r new f h.0 h.1 (late_fault s event f (λ is. nb (ap (λ (x : Refusal). Err x) is)) k.0))
  answered s event (Err e) (Ok q) new other exact h k na nb = absurd (no_late_fault s event q other e k.0 k.1 (late_fault s event e (λ is. na (ap (λ (x : Refusal). Err x) is)) h.0))
  answered s event (Err e) (Err f) new other exact h k na nb =
      let late_e = late_fault s event e (λ is. na (ap (λ (x : Refusal). Err x) is)) h.0 in
      let late_f = late_fault s event f (λ is. nb (ap (λ (x : Refusal). Err x) is)) k.0 in
      (ap (λ (x : Refusal). Err x) (one_late_fault s event f e late_f late_e), k.1 ∙ sym h.1)

  stepped : (s : State K) (event : Event) (first : Option Refusal) (a b : Result Reply Refusal) (new other : State K) → IsExact → GoesOn form s event first a new → GoesOn form s event first b other → a ≢ Err OutOfMemory → b ≢ Err OutOfMemory → (b ≡ a) × (other ≡ new)
  stepped s event first a b new other exact h k na nb = grind (arith, answered)

  -- two steps of one replica by one event are one
  pub decided : (s : State K) (event : Event) (a : Result Reply Refusal) (new : State K) → IsExact → Steps form s event a new → a ≢ Err OutOfMemory
      → (b : Result Reply Refusal) (other : State K) → b ≢ Err OutOfMemory → Steps form s event b other → (b ≡ a) × (other ≡ new)
  decided s event a new exact h na b other nb k = stepped s event (first_refusal s event) a b new other exact h k na nb
