use Rattle.std.proofs.Common.{ℕ, ◌+◌, ◌≤◌, List, IfSome}
use Rattle.mr_script.proofs.Names.{MAX_SCRIPT_BYTES, source_remaining}
use Rattle.mr_script.proofs.SoFar.{CameTo}
use Rattle.mr_script.proofs.script.run_script_in.Given as goal

-- each line before this one took a byte
pub record IsWithin (taken number : ℕ) : Type 0 where
  pub within : taken ≤ MAX_SCRIPT_BYTES
  pub lines : number ≤ taken + 1

abbrev pub invariant-loop-number : goal.invariant-loop-number
invariant-loop-number g l =
    IsWithin l.source.taken l.number
    × IfSome (g.R.Read.remaining l.fn.reader) (λ script.
    (text : List ℕ) × CameTo g.K.Knowledge.form l.fn.interpreter script l.interpreter l.number l.source.taken (source_remaining g.R.Read.remaining l.source) text)
