-- worked rows: what the definitions give for small values
use Rattle.std.specs.Prelude.{◌≡◌, ℕ, true, false, [], ◌∷◌, map, Some, None, Ok, Err, codes, refl}
use Rattle.std.specs.Fmt.{digits}
use Rattle.std.proofs.Common.{inl, inr, ap, arith}
use Rattle.mr_command.specs.declared.fault.LineFault.TheVariants.{UnknownCommand}
use Rattle.mr_forms.specs.Known.{Form}
use Rattle.mr_mail.specs.Mail.{Mail}
use Rattle.mr_model.specs.declared.event.Act.TheVariants as act
use Rattle.mr_replica.specs.State.{State, new_state}
use Rattle.mr_replica.specs.declared.event.Event.TheVariants as replica
use Rattle.mr_replica.specs.declared.event.Reply.TheVariants.{Done}
use Rattle.mr_replica.specs.declared.refusal.Refusal.TheVariants as refusal
use Rattle.mr_version.specs.Name.{Name}
use Rattle.mr_world.specs.declared.spec.Spec.{Spec}
use Rattle.mr_script.specs.Script.{looked_at}
use Rattle.mr_script.specs.declared.fault.ScriptFault.TheVariants.{Line, Read, Write}
use Rattle.mr_live.specs.Fault.{live_fault_number}
use Rattle.mr_live.specs.Live.{AreById, Writes}
use Rattle.mr_live.specs.Plan.{PlanView, CanAllRun, CanRun, Halves, ScriptAsks, TextAsks, no_plan, asked_by, events_for, is_live_line, scene_of}
use Rattle.mr_live.specs.Plan.TextAsks.{skipped, unknown}
use Rattle.mr_live.specs.Plan.LinesAsk.{all_read, at_fault, goes_on}
use Rattle.mr_live.specs.Rounds.{TwoRounds, has_memory}
use Rattle.mr_live.specs.Telling.{told_text, unexplained_text}
use Rattle.mr_live.specs.declared.fault.LiveFault.TheVariants.{OutOfMemory, Script, NotTwo}
use Rattle.mr_live.specs.declared.plan.Asked.{Asked}
use Rattle.mr_live.specs.declared.plan.NodePlan.{NodePlan}

-- ---- lines

-- a line is looked at by its first word alone
pub lines_of_a_live_script : map is_live_line (codes "replica 0 9 1 all" ∷ codes "create" ∷ codes "edit 0 0.1" ∷ codes "sync 1 0" ∷ codes "sync" ∷ codes "creates 0" ∷ codes " create 0" ∷ []) ≡ true ∷ true ∷ true ∷ false ∷ false ∷ false ∷ false ∷ []
lines_of_a_live_script = refl

-- a command that is none of a live script's is unknown, whatever its other words are
pub sync_is_unknown : TextAsks no_plan (codes "sync") (Err UnknownCommand) no_plan
sync_is_unknown = unknown refl refl

-- the fault has the number of its line, and ends the script
pub second_line : ScriptAsks (codes "# two\nsync 1 0\nheads 0\n") (Err (Line 2 UnknownCommand))
unfolding looked_at lib.Utf8.encode
second_line =
    goes_on no_plan (omega arith) (inl ((codes "# two", (refl, refl)), skipped refl))
    (at_fault no_plan (omega arith) (inl ((codes "sync 1 0", (refl, refl)), unknown refl refl)))

-- an empty script asks for nothing
pub empty_script : ScriptAsks [] (Ok no_plan)
unfolding looked_at
empty_script = all_read

-- ---- what can run

-- a replica of this id, event limit and number of places, that selects nothing
abbrev spec : (id limit places : ℕ) → Spec
spec id limit places = record { id = id; filter = []; event_limit = limit; port_capacity = places }

pub least_can_run : CanRun (spec 0 1 1)
least_can_run = record { some_events = omega arith; few_events = omega arith; places = record { some = omega arith; few = omega arith } }

pub most_can_run : CanRun (spec 0 1000000 4096)
most_can_run = record { some_events = omega arith; few_events = omega arith; places = record { some = omega arith; few = omega arith } }

pub too_many_events : ¬ CanRun (spec 0 1000001 1)
too_many_events can = omega (arith, can.few_events)

pub too_many_places : ¬ CanRun (spec 0 1 4097)
too_many_places can = omega (arith, can.places.few)

-- two of one id can't run beside one another
pub one_id : ¬ CanAllRun (spec 3 1 1 ∷ spec 3 1 1 ∷ [])
one_id can = can.apart 0 1 (spec 3 1 1) (omega arith) (omega arith) refl

-- three replicas are not two
pub three_are_not_two : Halves (record { specs = spec 0 1 1 ∷ spec 1 1 1 ∷ spec 2 1 1 ∷ []; asked = [] }) None
three_are_not_two is = cc is

-- ---- what users ask

abbrev mail : Mail
mail = record { from = []; subject = []; body = []; labels = []; flags = 0; day = 0 }

abbrev first : Name
first = record { author = 0; counter = 1 }

abbrev create : ℕ → Asked
create id = record { id = id; event = replica.Create mail }

abbrev edit : ℕ → Asked
edit id = record { id = id; event = replica.Edit (first ∷ []) mail }

pub only_creates_and_edits : asked_by 1 (act.Create mail) ∷ asked_by 0 (act.Edit (first ∷ []) mail) ∷ asked_by 0 act.Retire ∷ asked_by 1 act.Pull ∷ [] ≡ Some (create 1) ∷ Some (edit 0) ∷ None ∷ None ∷ []
only_creates_and_edits = refl

-- each node has its own, in order
pub each_its_own : map (λ id. events_for id (create 0 ∷ create 1 ∷ edit 0 ∷ [])) (0 ∷ 1 ∷ 2 ∷ [])
    ≡ (replica.Create mail ∷ replica.Edit (first ∷ []) mail ∷ []) ∷ (replica.Create mail ∷ []) ∷ [] ∷ []
each_its_own = refl

-- behind an event no replica comes any more
pub opening_ends : map (λ (p : PlanView). (scene_of p).is_opening) (no_plan ∷ record { specs = []; asked = create 0 ∷ [] } ∷ []) ≡ true ∷ false ∷ []
opening_ends = refl

-- ---- how they run

-- in both rounds the lanes of each node have the places of its own replica
pub own_places : {K : Type 0} (form : Form K) (plans : NodePlan × NodePlan) (ended : State K × State K) (ran : TwoRounds form plans ended) → plans.0.spec ≡ spec 0 9 4 → plans.1.spec ≡ spec 1 9 7
    → ran.first.ran.end.capacity ∷ ran.second.ran.end.capacity ∷ ran.both.first.end.capacity ∷ ran.both.second.end.capacity ∷ [] ≡ 4 ∷ 7 ∷ 4 ∷ 7 ∷ []
own_places form plans ended ran one other =
    let first : plans.0.spec.port_capacity ≡ 4 = ap (λ (s : Spec). s.port_capacity) one in
    let second : plans.1.spec.port_capacity ≡ 7 = ap (λ (s : Spec). s.port_capacity) other in
    rw (ran.first.ran.capacity, ran.second.ran.capacity, ran.both.first.capacity, ran.both.second.capacity, first, second) refl

-- ---- what is answered

-- a letter may be refused, but not for want of memory
pub only_memory : map has_memory (Ok Done ∷ Err refusal.LogFull ∷ Err (refusal.NotHeld first) ∷ Err refusal.OutOfMemory ∷ []) ≡ true ∷ true ∷ true ∷ false ∷ []
only_memory = refl

-- ---- what is told

module _ {K : Type 0} (knowledge : K) where
  abbrev empty : ℕ → State K
  empty id = new_state id [] 9 knowledge

  pub both_empty : told_text (empty 0 ∷ empty 63 ∷ []) ≡ codes "joined\nheads 0:\npushouts 0:\nheads 63:\npushouts 63:\n"
  unfolding digits
  both_empty = refl

  pub one_holds : told_text (record (empty 1) { heads = record { item = first; version = first; below = []; message = mail } ∷ [] } ∷ []) ≡ codes "joined\nheads 1: 0.1\npushouts 1:\n"
  unfolding digits
  one_holds = refl

  -- whichever comes first in the script, the lower id comes first
  pub by_lower_id : AreById (empty 3) (empty 1) (empty 1 ∷ empty 3 ∷ [])
  by_lower_id = inr (omega arith, refl)

pub stuck : unexplained_text 1 20 ≡ codes "unexplained 1 20\n"
unfolding digits
stuck = refl

-- ---- what is written

pub whole : Writes true (codes "joined\n") (Ok true) (Some (codes "> ")) (Some (codes "> joined\n"))
whole = (refl, refl)

pub a_beginning : Writes true (codes "joined\n") (Err (Script Write)) (Some []) (Some (codes "join"))
a_beginning = (refl, (codes "join", codes "ed\n", refl, refl))

-- no memory is 0, a script at fault is 1, and another number of replicas is 2
pub numbers_of_faults : map live_fault_number (OutOfMemory ∷ Script Read ∷ NotTwo ∷ []) ≡ 0 ∷ 1 ∷ 2 ∷ []
numbers_of_faults = refl
