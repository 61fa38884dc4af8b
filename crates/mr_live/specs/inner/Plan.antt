-- what a live script asks for, line by line
use Rattle.std.specs.Prelude.{◌≡◌, ◌≢◌, ◌+◌, ℕ, Bool, true, false, List, Option, Some, Result, Ok, Err}
use Rattle.mr_script.specs.Script.{lines_of}
use Rattle.mr_script.specs.declared.fault.ScriptFault.{ScriptFault}
use Rattle.mr_live.specs.declared.plan.NodePlan.{NodePlan}
use Rattle.mr_live.specs.Plan.{PlanView, CanRun, LinesAsk}

-- Whatever the lines at the new place come to, those at the old one come to.
abbrev pub LeadsOn : PlanView → (number room : ℕ) → List ℕ → PlanView → (number_then room_then : ℕ) → List ℕ → Type 0
LeadsOn p number room bytes q number_then room_then left =
    (result : Result PlanView ScriptFault) → LinesAsk q number_then room_then (lines_of left) result → LinesAsk p number room (lines_of bytes) result

-- what comes of the next line of these bytes
abbrev pub NextAsks : PlanView → (number room : ℕ) → List ℕ → Result Bool ScriptFault → PlanView → Option (List ℕ) → ℕ → Type 0
NextAsks p number room bytes (Ok true) q left room_then =
    (rest : List ℕ) × (left ≡ Some rest) × LeadsOn p number room bytes q (number + 1) room_then rest
NextAsks p number room bytes (Ok false) q left room_then = LinesAsk p number room (lines_of bytes) (Ok q)
NextAsks p number room bytes (Err fault) q left room_then = LinesAsk p number room (lines_of bytes) (Err fault)

-- nothing but memory keeps both from running
pub record CanBothRun (nodes : NodePlan × NodePlan) : Type 0 where
  pub apart : nodes.0.spec.id ≢ nodes.1.spec.id
  pub first : CanRun nodes.0.spec
  pub second : CanRun nodes.1.spec
