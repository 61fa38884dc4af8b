-- what comes of a request behind its mark
use Rattle.std.proofs.Common.{◌≡◌, ℕ, List, length, Option, Some, None, Result, Ok, Err, refl, sym, ap, subst, inr, ◌∙◌}
use Rattle.mr_sync.proofs.Names.{Answer, Answered, BadList, Hello, IfErr, IfOk, IsAnswerFault, IsAskFault, IsAskFrame, IsMetAskFault, IsNoAskOf}
use Rattle.mr_sync.proofs.Names.{IsNoRequestOf, IsOwnMarked, Journal, Kept, KeptFault, MatchResult, Normal, OtherHistory, OutOfMemory, Question, State}
use Rattle.mr_sync.proofs.Names.{SyncFault, fault_of_wire, option_map, some_is, sparing_form}
use Rattle.std.specs.Result.{IsErrAnd}
use Rattle.mr_wire.specs.Decoding.{Answers as Decodes, decoded}
use Rattle.mr_wire.specs.declared.fault.WireFault.{WireFault}
use Rattle.mr_wire.specs.declared.fault.WireFault.TheVariants as wires
use Rattle.mr_wire.specs.declared.frame.Frame.{Frame as AnyFrame}
use Rattle.mr_wire.specs.declared.frame.Frame.TheVariants as frames
use Rattle.mr_sync.proofs.GrowLaws.{refused_stays, said_none}

-- what holds of a fault holds of an answer that passes it on
pub passed_on : {T E : Type 0} (P : E → Type 0) (fault : E) (r : Result T E) → IsErrAnd r (λ e. e ≡ fault) → P fault → IfErr r P
passed_on P fault (Ok v) exit holds = tt
passed_on P fault (Err e) exit holds = subst P (sym exit) holds

module _ {D : Type 0} (journal : Journal D) where
  behind_mark : (old new : State Normal) (target : ℕ) (bytes rest : List ℕ) (fault : SyncFault) → IsOwnMarked old bytes rest → IsAnswerFault journal old target rest new fault → IsAskFault journal old target bytes new fault
  behind_mark old new target bytes rest OutOfMemory marked is = is.1
  behind_mark old new target bytes rest BadList marked is = absurd is.0
  behind_mark old new target bytes rest (OtherHistory id) marked is = absurd is.0
  behind_mark old new target bytes rest fault marked is = (rest, marked, is)

  -- each fault of what stands behind a mark with which the log agrees
  pub faults_behind : {T : Type 0} (old new : State Normal) (target : ℕ) (bytes rest : List ℕ) (r : Result T SyncFault) → IsOwnMarked old bytes rest → IfErr r (IsAnswerFault journal old target rest new) → IfErr r (IsAskFault journal old target bytes new)
  faults_behind old new target bytes rest (Ok v) marked is = tt
  faults_behind old new target bytes rest (Err fault) marked is = behind_mark old new target bytes rest fault marked is

  -- bytes that are no request leave the replica as it was
  pub no_request : (s : State Normal) (target : ℕ) (bytes : List ℕ) (fault : SyncFault) → IsNoRequestOf target bytes fault → IsAnswerFault journal s target bytes s fault
  no_request s target bytes (Kept e) is = absurd is
  no_request s target bytes fault is = (is, refl)

  -- so does a request that the replica refuses
  pub refused_ask : (old new : State Normal) (target : ℕ) (bytes : List ℕ) (question : Question) (e : KeptFault) → IsAskFrame bytes question → question.target ≡ target → Answered sparing_form journal old (Answer question) (Err e) new → IsAnswerFault journal old target bytes new (Kept e)
  refused_ask old new target bytes question e spelled target_is refused =
      (record { question = question; spelled = spelled; target_is = target_is; refused = refused }, refused_stays sparing_form journal old (Answer question) e new refused)

  -- one who said who it is was met
  pub met_faults : {T : Type 0} (theirs : Option Hello) (other : ℕ) (old new : State Normal) (bytes : List ℕ) (r : Result T SyncFault) → option_map (λ h. h.id) theirs ≡ Some other → IfErr r (IsAskFault journal old other bytes new) →
      IfErr r (IsMetAskFault journal theirs old bytes new)
  met_faults (Some h) other old new bytes r met is = subst (λ (id : ℕ). IfErr r (IsAskFault journal old id bytes new)) (sym (some_is h.id other met)) is
  met_faults None other old new bytes r met is = absurd (said_none other met)

-- what a replica that is lent agrees with, the replica does
pub lent_marked : (lent s : State Normal) (bytes rest : List ℕ) → lent ≡ s → IsOwnMarked lent bytes rest → IsOwnMarked s bytes rest
lent_marked lent s bytes rest same marked = subst (λ (z : State Normal). IsOwnMarked z bytes rest) same marked

-- bytes that begin with no frame
pub no_frame : (target : ℕ) (bytes : List ℕ) (e : WireFault) → Decodes (decoded bytes) (Err e) → IsNoRequestOf target bytes (fault_of_wire e)
no_frame target bytes wires.OutOfMemory is = tt
no_frame target bytes e is = is

-- a frame that is all of the bytes is a request, or why it is none
pub ask_or_none : (target : ℕ) (bytes : List ℕ) (f : AnyFrame) (used : ℕ) (r : Result Question SyncFault) → decoded bytes ≡ Ok (f, used) → used ≡ length bytes → MatchResult r (λ q. (f ≡ frames.Ask q) × (q.target ≡ target)) (IsNoAskOf target f) → IfErr r (IsNoRequestOf target bytes)
ask_or_none target bytes f used (Ok q) begins whole is = tt
ask_or_none target bytes (frames.Ask q) used (Err fault) begins whole is =
    subst (IsNoRequestOf target bytes) (sym is.0) (q, begins ∙ ap (λ (n : ℕ). Ok (frames.Ask q, n)) whole, is.1)
ask_or_none target bytes f used (Err fault) begins whole is = subst (IsNoRequestOf target bytes) (sym is) (record { front = f; used = used; begins = begins; otherwise = inr tt })

pub ask_whole : (target : ℕ) (bytes : List ℕ) (f : AnyFrame) (used : ℕ) (r : Result Question SyncFault) → decoded bytes ≡ Ok (f, used) → used ≡ length bytes → MatchResult r (λ q. (f ≡ frames.Ask q) × (q.target ≡ target)) (IsNoAskOf target f) → IfOk r (IsAskFrame bytes)
ask_whole target bytes f used (Err fault) begins whole is = tt
ask_whole target bytes f used (Ok q) begins whole is = begins ∙ ap (λ (n : ℕ). Ok (f, n)) whole ∙ ap (λ (g : AnyFrame). Ok (g, length bytes)) is.0
