use Rattle.std.proofs.Common.{ℕ, ◌+◌, ◌≤◌, Option, List, IfSome}
use Rattle.mr_script.specs.Script.{Accounts}
use Rattle.mr_script.specs.declared.source.TheConstants.{MAX_SCRIPT_BYTES}
use Rattle.mr_live.specs.Plan.{CanAllRun}
use Rattle.mr_live.proofs.ReadLemmas.{CameTo}
use Rattle.mr_live.proofs.source.read_plan.Given as goal

-- what was taken is accounted for, and each line before this one took a byte
pub record IsReadSoFar (script left : Option (List ℕ)) (taken number : ℕ) : Type 0 where
  pub within : taken ≤ MAX_SCRIPT_BYTES
  pub counted : Accounts script left taken
  pub lines : number ≤ taken + 1

abbrev pub invariant-loop-number : goal.invariant-loop-number
invariant-loop-number g l =
    IsReadSoFar (g.R.Read.remaining l.fn.reader) l.source.left l.source.taken l.number
    × IfSome (g.R.Read.remaining l.fn.reader) (λ script.
    CameTo script l.plan l.number l.source.taken l.source.left)
    × CanAllRun l.plan.specs
