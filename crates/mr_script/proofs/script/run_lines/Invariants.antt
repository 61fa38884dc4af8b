use Rattle.std.proofs.Common.{ℕ, ◌+◌, ◌≤◌, List, Option, IfSome}
use Rattle.mr_script.proofs.Names.{Accounts, MAX_SCRIPT_BYTES, source_remaining}
use Rattle.mr_script.proofs.SoFar.{SoFar}
use Rattle.mr_script.proofs.script.run_lines.Given as goal

-- what was taken is accounted for, and each line before this one took a byte
pub record IsReadSoFar (script left : Option (List ℕ)) (taken number : ℕ) : Type 0 where
  pub within : taken ≤ MAX_SCRIPT_BYTES
  pub counted : Accounts script left taken
  pub lines : number ≤ taken + 1

abbrev pub invariant-loop-number : goal.invariant-loop-number
invariant-loop-number g l =
    IsReadSoFar (g.R.Read.remaining l.fn.reader) (source_remaining g.R.Read.remaining l.source) l.source.taken l.number
    × IfSome (g.R.Read.remaining l.fn.reader) (λ script.
    SoFar g.K.Knowledge.form l.fn.interpreter script l.interpreter l.number l.source.taken (source_remaining g.R.Read.remaining l.source)
    (g.W.Write.contents l.fn.writer) (g.W.Write.contents l.writer) l.output)
