-- what comes of a live script
use Rattle.std.specs.Prelude.{◌≡◌, ◌≢◌, ◌<◌, ◌⊎◌, ◌++◌, ℕ, Bool, List, [], ◌∷◌, length, Option, Some, Result, Ok, Err}
use Rattle.std.specs.Io.KnownBytes.{Appends}
use Rattle.mr_forms.specs.Known.{Form}
use Rattle.mr_replica.specs.State.{State}
use Rattle.mr_script.specs.declared.fault.ScriptFault.{ScriptFault}
use Rattle.mr_script.specs.declared.fault.ScriptFault.TheVariants as stops
use Rattle.mr_live.specs.Plan.{PlanView, CanAllRun, Halves}
use Rattle.mr_live.specs.Rounds.{TwoRounds}
use Rattle.mr_live.specs.Telling.{Tells}
use Rattle.mr_live.specs.declared.plan.NodePlan.{NodePlan}
use Rattle.mr_live.specs.declared.fault.LiveFault.{LiveFault}
use Rattle.mr_live.specs.declared.fault.LiveFault.TheVariants.{OutOfMemory, Script, NotTwo}

-- both, the one of the lower id first
abbrev pub AreById : {K : Type 0} → (first second : State K) → List (State K) → Type 0
AreById first second ends = ((first.id < second.id) × (ends ≡ first ∷ second ∷ [])) ⊎ ((second.id < first.id) × (ends ≡ second ∷ first ∷ []))

-- The text was written, to its end: the answer is whether the logs joined. Or there was no memory for it, and nothing was written. Or the writer failed, and a beginning was written.
abbrev pub Writes : (joined : Bool) → (text : List ℕ) → Result Bool LiveFault → (old new : Option (List ℕ)) → Type 0
Writes joined text (Ok answer) old new = (answer ≡ joined) × Appends old new text
Writes joined text (Err OutOfMemory) old new = new ≡ old
Writes joined text (Err (Script fault)) old new = (fault ≡ stops.Write) × ((written : List ℕ) × (rest : List ℕ) × (text ≡ written ++ rest) × Appends old new written)
Writes joined text (Err NotTwo) old new = ⊥

-- why two replicas did not meet: the plan has another number of them; or it has two, and memory was wanting
abbrev pub CannotMeet : PlanView → LiveFault → Type 0
CannotMeet p NotTwo = length p.specs ≢ 2
CannotMeet p OutOfMemory = length p.specs ≡ 2
CannotMeet p (Script fault) = ⊥

module _ {K : Type 0} (form : Form K) where
  -- of two replicas in the order of their ids, the text tells whether their logs joined, and what they hold
  pub record TellsBoth (ended : State K × State K) (joined : Bool) (text : List ℕ) : Type 0 where
    pub ends : List (State K)
    pub by_id : AreById ended.0 ended.1 ends
    pub tells : Tells form ends joined text

  -- Two nodes ran in two rounds, and the text tells how they ended.
  pub record NodesMeet (nodes : NodePlan × NodePlan) (joined : Bool) (text : List ℕ) : Type 0 where
    pub ended : State K × State K
    pub ran : TwoRounds form nodes ended
    pub tells : TellsBoth ended joined text

  -- what comes of two nodes: what was told of them is written, or memory was wanting, and nothing is
  abbrev pub NodesEnd : (nodes : NodePlan × NodePlan) → Result Bool LiveFault → (old new : Option (List ℕ)) → Type 0
  NodesEnd nodes result old new =
      ((joined : Bool) × (text : List ℕ) × NodesMeet nodes joined text × Writes joined text result old new)
      ⊎ ((result ≡ Err OutOfMemory) × (new ≡ old))

  -- what comes of a plan: it has just two replicas, and this comes of their nodes; or they can't meet, and nothing is written
  abbrev pub PlanEnds : PlanView → Result Bool LiveFault → (old new : Option (List ℕ)) → Type 0
  PlanEnds p result old new =
      ((nodes : NodePlan × NodePlan) × Halves p (Some nodes) × NodesEnd nodes result old new)
      ⊎ ((fault : LiveFault) × (result ≡ Err fault) × CannotMeet p fault × (new ≡ old))

  -- what comes of a script: the fault that ended its reading, and nothing is written; or what comes of its plan, whose replicas can all run
  abbrev pub LiveEnds : Result PlanView ScriptFault → Result Bool LiveFault → (old new : Option (List ℕ)) → Type 0
  LiveEnds (Err fault) result old new = (result ≡ Err (Script fault)) × (new ≡ old)
  LiveEnds (Ok p) result old new = CanAllRun p.specs × PlanEnds p result old new
