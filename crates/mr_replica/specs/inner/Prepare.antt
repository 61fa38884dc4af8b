-- An event in two calls: its answer and its change are prepared, and then put in.
use Rattle.std.specs.Prelude.{◌≡◌, ◌<◌, Option, Some, None, Result, Ok, Err, List, All, length}
use Rattle.mr_forms.specs.Known.{Form}
use Rattle.mr_madewith.specs.Revision.{Rev}
use Rattle.mr_wire.specs.Values.{DescentParts}
use Rattle.mr_wire.specs.Frames.{Sent, Question}
use Rattle.mr_wire.specs.declared.frame.Frame.TheVariants.{Record}
use Rattle.mr_session.specs.Session.{Session}
use Rattle.mr_replica.specs.State.{State}
use Rattle.mr_replica.specs.Issue.{Wanted, Fits, is_selected, logged}
use Rattle.mr_replica.specs.Receive.{wanted_by_line, wanted_by_end, TakesLine, EndsSession}
use Rattle.mr_replica.specs.Answer.{asked_of, mode_for, Keeps}
use Rattle.mr_replica.specs.Step.{first_refusal, wanted_by, Changes, RefusesLate}
use Rattle.mr_replica.specs.inner.Contents.{news_of, push_out_news_of}
use Rattle.mr_replica.specs.inner.Issued.{IsNext}
use Rattle.mr_replica.specs.inner.Sound.{IsSound}
use Rattle.mr_replica.specs.inner.Taking.{RefusesLine, RefusesEnd}
use Rattle.mr_replica.specs.inner.Parts.{MayPut, Puts}
use Rattle.mr_replica.specs.declared.event.Event.{Event}
use Rattle.mr_replica.specs.declared.event.Event.TheVariants.{Receive}
use Rattle.mr_replica.specs.declared.event.Reply.{Reply}
use Rattle.mr_replica.specs.declared.event.Reply.TheVariants.{Finished}
use Rattle.mr_replica.specs.declared.refusal.Refusal.{Refusal}
use Rattle.mr_replica.specs.declared.replica.answer.Opening.{Opening}
use Rattle.mr_replica.specs.declared.replica.contents.arrival.Arrival.{Arrival}
use Rattle.mr_replica.specs.declared.replica.parts.Change.{Change}
use Rattle.mr_replica.specs.declared.replica.prepare.Prepared.{Prepared}

module _ {K : Type 0} (form : Form K) (s : State K) where
  -- a revision is to enter
  pub record IsToEnter (arrival : Arrival) : Type 0 where
    pub room : length s.log < s.event_limit
    pub next : IsNext s arrival.revision
    pub selected : arrival.selected ≡ is_selected s arrival.revision
    pub last : arrival.last ≡ arrival.revision
    pub entries : arrival.entries.items ≡ news_of arrival.selected arrival.revision s.heads
    pub push_out_entries : arrival.push_out_entries.items ≡ push_out_news_of arrival.selected arrival.revision s.push_outs

  -- a stream is to be opened for the request
  pub record IsOpeningFor (ask : Question) (opening : Opening) : Type 0 where
    pub asked : opening.asked ≡ asked_of ask
    pub mode : opening.mode ≡ mode_for s ask
    pub keeps : Keeps form (mode_for s ask) s.knowledge opening.know.items

  -- the change may be put in by the event, and what it leaves keeps what each replica keeps
  abbrev pub MayApply : Change K → Event → Type 0
  MayApply made event = IsSound form s → MayPut s made event × ((t : State K) → Puts form s made event t → IsSound form (logged t event))

  -- the change was put in, and the event noted
  abbrev pub IsChanged : Change K → Event → State K → Type 0
  IsChanged made event new = (t : State K) × Puts form s made event t × (new ≡ logged t event)

  -- ---- what is prepared

  -- all that is wanted has a value, the change may be put in, and the replica becomes what the reply stands for
  pub record IsPrepared (wanted : List Wanted) (Becomes : Reply → State K → Type 0) (event : Event) (prepared : Prepared K) : Type 0 where
    pub fits : All (Fits form) wanted
    pub may_apply : MayApply prepared.change event
    pub changes : (t : State K) → Puts form s prepared.change event t → Becomes prepared.reply (logged t event)

  -- what is prepared of an event whose own refusals' cases don't hold
  abbrev pub PreparesLate : Event → Result (Prepared K) Refusal → Type 0
  PreparesLate event (Ok prepared) = IsPrepared (wanted_by form s event) (Changes form s event) event prepared
  PreparesLate event (Err e) = RefusesLate form s event e

  -- what is prepared of an event, or why it is refused
  abbrev pub Prepares : Event → Result (Prepared K) Refusal → Type 0
  Prepares event answer = elim (first_refusal s event) [
    | Some e ↦ answer ≡ Err e
    | None ↦ PreparesLate event answer
  ]

  -- what is prepared of a version that a record tells of
  abbrev pub PreparesLine : Sent → DescentParts → Option Rev → Result (Prepared K) Refusal → Type 0
  PreparesLine sent line comer (Ok prepared) = IsPrepared (wanted_by_line form s line) (TakesLine form s sent line comer) (Receive (Record sent)) prepared
  PreparesLine sent line comer (Err e) = RefusesLine form s line e

  -- what is prepared of the End of a session
  abbrev pub PreparesEnd : Sent → Option Session → Result (Prepared K) Refusal → Type 0
  PreparesEnd sent session (Ok prepared) =
      IsPrepared (wanted_by_end form s session) (λ reply new. (reply ≡ Finished) × EndsSession form s sent session new) (Receive (Record sent)) prepared
  PreparesEnd sent session (Err e) = RefusesEnd form s session e
