-- runs of a world: events that are answered one after the other, up to the end or to one at which it stops
use Rattle.std.specs.Prelude.{◌≡◌, ◌≢◌, ◌++◌, [], ◌∷◌, ℕ, is_none, if◌then◌else◌, Option, Some, None, List, length, map, Result, Ok, Err}
use Rattle.mr_forms.specs.Known.{Form}
use Rattle.mr_mail.specs.Mail.{Mail}
use Rattle.mr_model.specs.declared.event.Act.{Act}
use Rattle.mr_model.specs.declared.event.Event.{Event}
use Rattle.mr_world.specs.Asked.{asked}
use Rattle.mr_world.specs.Does.{Does}
use Rattle.mr_world.specs.Given.{with_given}
use Rattle.mr_world.specs.Kept.{MemberView, WorldView, member_at, given_in}
use Rattle.mr_world.specs.declared.answer.Answer.{Answer}
use Rattle.mr_world.specs.declared.answered.Answered.{Answered}
use Rattle.mr_world.specs.declared.fault.WorldFault.{WorldFault}
use Rattle.mr_world.specs.declared.fault.WorldFault.TheVariants.{OutOfMemory, NoSuchReplica, NoSuchFrame}
use Rattle.mr_world.specs.declared.task.Task.{Task}

-- From s, these lead to s', one after the other.
abbrev pub LeadsBy : {S X : Type 0} → (S → X → S → Type 0) → S → List X → S → Type 0
LeadsBy Goes s [] s' = s' ≡ s
LeadsBy {S} Goes s (x ∷ xs) s' = (mid : S) × Goes s x mid × LeadsBy Goes mid xs s'

-- the event with its answer
abbrev pub answered : Event Mail → Answer → Answered
answered event answer = record { event = event; answer = answer }

module _ {K : Type 0} where
  -- what the act asks by the frames that replicas gave
  abbrev pub asked_in : WorldView K → Act Mail → Option Task
  asked_in w act = asked w.asks w.records w.receipts act

  -- why a world stops at the event, where it has memory
  abbrev pub stop_fault : WorldView K → Event Mail → Option WorldFault
  stop_fault w e =
      if is_none (member_at w.members e.replica) then Some NoSuchReplica else (if is_none (asked_in w e.act) then Some NoSuchFrame else None)

  -- The fault is this one; memory is wanting only where there is none.
  abbrev pub IsStopFault : WorldView K → Event Mail → WorldFault → Type 0
  IsStopFault w e OutOfMemory = stop_fault w e ≡ None
  IsStopFault w e fault = stop_fault w e ≡ Some fault

  -- the ids of the replicas, in their order
  abbrev pub ids_of : List (MemberView K) → List ℕ
  ids_of members = map (λ m. m.replica.id) members

  -- the member of an id has become another; the others are as they were, and none came or went
  pub record Becomes (r : ℕ) (old new : MemberView K) (members members' : List (MemberView K)) : Type 0 where
    pub was : member_at members r ≡ Some old
    pub is : member_at members' r ≡ Some new
    pub others : (q : ℕ) → q ≢ r → member_at members' q ≡ member_at members q
    pub ids : ids_of members' ≡ ids_of members

module _ {K : Type 0} (form : Form K) where
  -- From w, the world answers the event and goes on to w': the member of the event's id does what the act asks, what it gave
  -- is the newest of its pool, and the event is noted with its answer behind the others.
  pub record Happens (w : WorldView K) (e : Event Mail) (answer : Answer) (w' : WorldView K) : Type 0 where
    pub task : Task
    pub old : MemberView K
    pub new : MemberView K
    pub asks : asked_in w e.act ≡ Some task
    pub does : Does form task old answer new
    pub becomes : Becomes e.replica old new w.members w'.members
    pub gives : given_in w' ≡ with_given (given_in w) answer
    pub notes : w'.answers ≡ w.answers ++ answered e answer ∷ []

  -- it is answered, or nothing changes
  abbrev pub Meets : WorldView K → Event Mail → Result (Unit {0}) WorldFault → WorldView K → Type 0
  Meets w e (Ok _) w' = (answer : Answer) × Happens w e answer w'
  Meets w e (Err fault) w' = IsStopFault w e fault × (w' ≡ w)

  -- These events are answered one after the other, and lead from w to w'.
  abbrev pub Leads : WorldView K → List (Event Mail) → WorldView K → Type 0
  Leads = LeadsBy (λ w e w'. (answer : Answer) × Happens w e answer w')

  -- The events before this place were answered, and the one there was not.
  pub record StopsAt (w : WorldView K) (events : List (Event Mail)) (at : ℕ) (fault : WorldFault) (w' : WorldView K) : Type 0 where
    pub before : List (Event Mail)
    pub event : Event Mail
    pub left : List (Event Mail)
    pub all : events ≡ before ++ event ∷ left
    pub place : length before ≡ at
    pub leads : Leads w before w'
    pub faulty : IsStopFault w' event fault
