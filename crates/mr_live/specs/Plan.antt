-- what the lines of a live script ask for
use Rattle.std.specs.Prelude.{◌≡◌, ◌≢◌, ◌==◌, ◌++◌, ◌||◌, ◌⊎◌, ◌+◌, ◌-◌, ◌<◌, ◌≤◌, ℕ, Bool, true, false, if◌then◌else◌, All, List, [], ◌∷◌, length, Option, Some, None, Result, Ok, Err, codes}
use Rattle.std.specs.List.{AllPairs, list_any, flat_map}
use Rattle.std.specs.Str.{IsUtf8}
use Rattle.mr_feed.specs.declared.port.TheConstants.{MAX_CAPACITY}
use Rattle.mr_mail.specs.Label.{text_eq}
use Rattle.mr_mail.specs.Mail.{Mail}
use Rattle.mr_model.specs.declared.event.Act.{Act}
use Rattle.mr_model.specs.declared.event.Act.TheVariants as act
use Rattle.mr_replica.specs.declared.event.Event.{Event}
use Rattle.mr_replica.specs.declared.event.Event.TheVariants.{Create, Edit}
use Rattle.mr_replica.specs.declared.replica.TheConstants.{MAX_EVENTS}
use Rattle.mr_world.specs.declared.spec.Spec.{Spec}
use Rattle.mr_command.specs.Command.{reads_command}
use Rattle.mr_command.specs.Scene.{Scene}
use Rattle.mr_command.specs.Words.{words}
use Rattle.mr_command.specs.declared.command.Command.{Command}
use Rattle.mr_command.specs.declared.command.Command.TheVariants as command
use Rattle.mr_command.specs.declared.fault.LineFault.{LineFault}
use Rattle.mr_command.specs.declared.fault.LineFault.TheVariants.{NotText, UnknownCommand, OutOfMemory}
use Rattle.mr_script.specs.Run.{Breaks, is_skipped}
use Rattle.mr_script.specs.Script.{line_text, lines_of, looked_at}
use Rattle.mr_script.specs.declared.fault.ScriptFault.{ScriptFault}
use Rattle.mr_script.specs.declared.fault.ScriptFault.TheVariants.{Line, TooLong}
use Rattle.mr_script.specs.declared.source.TheConstants.{MAX_SCRIPT_BYTES}
use Rattle.mr_live.specs.declared.plan.Asked.{Asked}
use Rattle.mr_live.specs.declared.plan.NodePlan.{NodePlan}

-- replicas in their order, and then what their users ask of them
pub record PlanView : Type 0 where
  pub specs : List Spec
  pub asked : List Asked

-- no two replicas have one id
abbrev pub AreApart : List Spec → Type 0
AreApart specs = AllPairs (λ s t. s.id ≢ t.id) specs

-- a lane may have so many places
pub record ArePlaces (places : ℕ) : Type 0 where
  pub some : 1 ≤ places
  pub few : places ≤ MAX_CAPACITY

-- a replica may have this limit, and the lanes of its node so many places
pub record CanRun (spec : Spec) : Type 0 where
  pub some_events : 1 ≤ spec.event_limit
  pub few_events : spec.event_limit ≤ MAX_EVENTS
  pub places : ArePlaces spec.port_capacity

-- nothing but memory keeps these replicas from running as nodes, each beside the others
pub record CanAllRun (specs : List Spec) : Type 0 where
  pub apart : AreApart specs
  pub each : All CanRun specs

-- nothing
abbrev pub no_plan : PlanView
no_plan = record { specs = []; asked = [] }

-- what the words of a line are looked up in: there are no frames, and no replica comes behind an event
abbrev pub scene_of : PlanView → Scene
scene_of p = record { is_opening = length p.asked == 0; has_replica = λ id. list_any (λ spec. spec.id == id) p.specs; has_frame = λ pool number. false }

-- the commands of a live script
abbrev pub is_live_name : List ℕ → Bool
is_live_name name = text_eq name (codes "replica") || (text_eq name (codes "create") || text_eq name (codes "edit"))

-- whether a line's first word is one of them
abbrev pub begins_live : List (List ℕ) → Bool
begins_live [] = false
begins_live (name ∷ args) = is_live_name name

abbrev pub is_live_line : List ℕ → Bool
is_live_line text = begins_live (words text)

-- what an act asks of the replica of this id, if it is one of its user's
abbrev pub asked_by : ℕ → Act Mail → Option Asked
asked_by id (act.Create message) = Some (record { id = id; event = Create message })
asked_by id (act.Edit bases message) = Some (record { id = id; event = Edit bases message })
asked_by id other = None

-- what is asked, if it is of the replica of this id
abbrev pub event_for : ℕ → Asked → List Event
event_for id a = if a.id == id then a.event ∷ [] else []

-- what is asked of the replica of this id, in order
abbrev pub events_for : ℕ → List Asked → List Event
events_for id asked = flat_map (event_for id) asked

-- a replica comes behind the others, or there is no memory
abbrev pub AddsReplica : PlanView → Spec → Result (Unit {0}) LineFault → PlanView → Type 0
AddsReplica p spec result q =
    ((result ≡ Ok tt) × (q ≡ record { specs = p.specs ++ spec ∷ []; asked = p.asked })) ⊎ ((result ≡ Err OutOfMemory) × (q ≡ p))

-- what a user asks comes behind what was asked before, or there is no memory
abbrev pub AddsAsked : PlanView → Option Asked → Result (Unit {0}) LineFault → PlanView → Type 0
AddsAsked p (Some a) result q =
    ((result ≡ Ok tt) × (q ≡ record { specs = p.specs; asked = p.asked ++ a ∷ [] })) ⊎ ((result ≡ Err OutOfMemory) × (q ≡ p))
AddsAsked p None result q = (result ≡ Err UnknownCommand) × (q ≡ p)

-- what a command adds
abbrev pub Adds : PlanView → Command → Result (Unit {0}) LineFault → PlanView → Type 0
Adds p (command.AddReplica spec) result q = AddsReplica p spec result q
Adds p (command.Happen event) result q = AddsAsked p (asked_by event.replica event.act) result q
Adds p (command.Sync sync) result q = (result ≡ Err UnknownCommand) × (q ≡ p)
Adds p (command.Ask question) result q = (result ≡ Err UnknownCommand) × (q ≡ p)

-- A line of text is skipped; or its first word is none of a live script's; or it can't be read as a command; or it is one, which adds to the plan.
pub data TextAsks (p : PlanView) (text : List ℕ) : Result (Unit {0}) LineFault → PlanView → Type 0 where
  skipped : is_skipped text ≡ true → TextAsks p text (Ok tt) p
  unknown : is_skipped text ≡ false → is_live_line text ≡ false → TextAsks p text (Err UnknownCommand) p
  not_read : {fault : LineFault} → is_skipped text ≡ false → is_live_line text ≡ true → reads_command (scene_of p) text (Err fault) → TextAsks p text (Err fault) p
  done : (asks : Command) {result : Result (Unit {0}) LineFault} {q : PlanView} → is_skipped text ≡ false → is_live_line text ≡ true → reads_command (scene_of p) text (Ok asks) → Adds p asks result q → TextAsks p text result q

-- what a line without its line feed asks for
abbrev pub LineAsks : PlanView → List ℕ → Result (Unit {0}) LineFault → PlanView → Type 0
LineAsks p line result q = (IsUtf8 line × TextAsks p line result q) ⊎ ((¬ IsUtf8 line) × (result ≡ Err NotText) × (q ≡ p))

-- From p, with room for so many bytes, these lines come to this plan, or end in a fault. They are numbered from this number on.
pub data LinesAsk : PlanView → (number room : ℕ) → (lines : List (List ℕ)) → Result PlanView ScriptFault → Type 0 where
  -- no line is left
  all_read : {p : PlanView} {number room : ℕ} → LinesAsk p number room [] (Ok p)
  -- the reader fails, or there is no memory
  breaks : {p : PlanView} {number room : ℕ} {lines : List (List ℕ)} {fault : ScriptFault} → Breaks number fault → LinesAsk p number room lines (Err fault)
  -- the next line ends past the greatest length
  too_long : {p : PlanView} {number room : ℕ} {line : List ℕ} {lines : List (List ℕ)} → room < length line → LinesAsk p number room (line ∷ lines) (Err TooLong)
  -- it is at fault
  at_fault : {p : PlanView} (q : PlanView) {number room : ℕ} {line : List ℕ} {lines : List (List ℕ)} {fault : LineFault} → length line ≤ room
      → LineAsks p (line_text line) (Err fault) q → LinesAsk p number room (line ∷ lines) (Err (Line number fault))
  -- a line is taken, and the lines after it go on
  goes_on : {p : PlanView} (q : PlanView) {number room : ℕ} {line : List ℕ} {lines : List (List ℕ)} {result : Result PlanView ScriptFault} → length line ≤ room
      → LineAsks p (line_text line) (Ok tt) q → LinesAsk q (number + 1) (room - length line) lines result → LinesAsk p number room (line ∷ lines) result

-- what the script asks for
abbrev pub ScriptAsks : List ℕ → Result PlanView ScriptFault → Type 0
ScriptAsks script result = LinesAsk no_plan 1 MAX_SCRIPT_BYTES (lines_of (looked_at script)) result

-- a node does what is asked of its replica
pub record IsNodePlan (asked : List Asked) (spec : Spec) (n : NodePlan) : Type 0 where
  pub replica : n.spec ≡ spec
  pub events : n.events.items ≡ events_for spec.id asked

-- there are just two replicas, whose nodes these are; or another number
abbrev pub Halves : PlanView → Option (NodePlan × NodePlan) → Type 0
Halves p (Some nodes) = (first : Spec) × (second : Spec) × (p.specs ≡ first ∷ second ∷ []) × IsNodePlan p.asked first nodes.0 × IsNodePlan p.asked second nodes.1
Halves p None = length p.specs ≢ 2
