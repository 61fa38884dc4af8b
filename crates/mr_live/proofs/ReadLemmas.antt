-- one line of a live script after another
use Rattle.std.proofs.Common.{◌≡◌, ◌+◌, ◌-◌, ◌<◌, ◌≤◌, ℕ, List, [], length, Option, Some, None, Result, Ok, Err, IfSome, inl, inr, refl, arith}
use Rattle.std.specs.Io.BufRead.{take_through, drop_through}
use Rattle.mr_command.specs.declared.fault.LineFault.{LineFault}
use Rattle.mr_script.specs.declared.fault.ScriptFault.{ScriptFault}
use Rattle.mr_script.specs.declared.fault.ScriptFault.TheVariants.{Line}
use Rattle.mr_script.specs.declared.source.SourceFault.{SourceFault}
use Rattle.mr_script.specs.declared.source.SourceFault.TheVariants as source
use Rattle.mr_script.specs.declared.source.TheConstants.{MAX_SCRIPT_BYTES}
use Rattle.mr_script.specs.Fault.{fault_of_source}
use Rattle.mr_script.specs.Run.{Breaks}
use Rattle.mr_script.specs.Script.{lines_of, looked_at, TakesLine, IsNextLine}
use Rattle.mr_script.proofs.LineLemmas.{lines-first}
use Rattle.mr_live.specs.Plan.{PlanView, LineAsks, LinesAsk, ScriptAsks, no_plan}
use Rattle.mr_live.specs.inner.Plan.{LeadsOn}
use Rattle.mr_live.specs.Plan.LinesAsk.{all_read, breaks, too_long, at_fault, goes_on}

module _ (p : PlanView) (number taken : ℕ) (bytes line : List ℕ) (left : Option (List ℕ)) (taken_then : ℕ) where
  -- a line that can't be had ends the script
  pub asks_fault : (f : SourceFault) → taken ≤ MAX_SCRIPT_BYTES → TakesLine bytes taken (Err f) line left taken_then → LinesAsk p number (MAX_SCRIPT_BYTES - taken) (lines_of bytes) (Err (fault_of_source number f))
  asks_fault source.OutOfMemory few h = breaks (inr refl)
  asks_fault source.Read few h = breaks (inl refl)
  asks_fault source.TooLong few h =
      let over : MAX_SCRIPT_BYTES - taken < length (take_through 10 bytes) = omega (arith, h.1) in
      rw (lines-first bytes h.0) (too_long over)

  -- at the end of the bytes the plan is what it is
  pub asks_none : bytes ≡ [] → LinesAsk p number (MAX_SCRIPT_BYTES - taken) (lines_of bytes) (Ok p)
  asks_none none = rw none all_read

  -- a line that is at fault ends the script
  pub asks_at_fault : (q : PlanView) (f : LineFault) → taken_then ≤ MAX_SCRIPT_BYTES → IsNextLine bytes taken line left taken_then → LineAsks p line (Err f) q → LinesAsk p number (MAX_SCRIPT_BYTES - taken) (lines_of bytes) (Err (Line number f))
  asks_at_fault q f few next does =
      let fits : length (take_through 10 bytes) ≤ MAX_SCRIPT_BYTES - taken = omega (arith, next.counted) in
      rw (lines-first bytes next.some) (at_fault q fits (rw next.text at does))

  -- and one that is taken leads on to the lines after it
  pub asks_more : (q : PlanView) → taken_then ≤ MAX_SCRIPT_BYTES → IsNextLine bytes taken line left taken_then → LineAsks p line (Ok tt) q → (rest : List ℕ) × (left ≡ Some rest) × LeadsOn p number (MAX_SCRIPT_BYTES - taken) bytes q (number + 1) (MAX_SCRIPT_BYTES - taken_then) rest
  asks_more q few next does =
      let room : MAX_SCRIPT_BYTES - taken_then ≡ (MAX_SCRIPT_BYTES - taken) - length (take_through 10 bytes) = omega (arith, next.counted) in
      let fits : length (take_through 10 bytes) ≤ MAX_SCRIPT_BYTES - taken = omega (arith, next.counted) in (
        drop_through 10 bytes,
        next.rest,
        λ result asks.
            rw (lines-first bytes next.some) (goes_on q fits (rw next.text at does) (rw room at asks)),
      )

-- where not even the first line can be read
pub asks_unread : (script : Option (List ℕ)) (fault : ScriptFault) → Breaks 1 fault → IfSome script (λ bytes. ScriptAsks bytes (Err fault))
asks_unread None fault broken = tt
asks_unread (Some bytes) fault broken = breaks broken

-- the lines so far have come to p, and the rest is left
pub record CameTo (script : List ℕ) (p : PlanView) (number taken : ℕ) (left : Option (List ℕ)) : Type 0 where
  pub rest : List ℕ
  pub is_left : left ≡ Some rest
  pub leads : LeadsOn no_plan 1 MAX_SCRIPT_BYTES (looked_at script) p number (MAX_SCRIPT_BYTES - taken) rest

module _ (script : List ℕ) (p : PlanView) (number taken : ℕ) (left : Option (List ℕ)) (came : CameTo script p number taken left) where
  -- after one more line
  pub came_further : (q : PlanView) (taken_then : ℕ) (left_then : Option (List ℕ))
      → IfSome left (λ bytes. (rest : List ℕ) × (left_then ≡ Some rest) × LeadsOn p number (MAX_SCRIPT_BYTES - taken) bytes q (number + 1) (MAX_SCRIPT_BYTES - taken_then) rest)
      → CameTo script q (number + 1) taken_then left_then
  came_further q taken_then left_then next =
      let then = rw came.is_left at next in
      record {
        rest = then.0;
        is_left = then.1;
        leads = λ result asks. came.leads result (then.2 result asks);
      }

  -- where the script ends here
  pub came_to_end : (result : Result PlanView ScriptFault) → IfSome left (λ bytes. LinesAsk p number (MAX_SCRIPT_BYTES - taken) (lines_of bytes) result) → ScriptAsks script result
  came_to_end result asks = came.leads result (rw came.is_left at asks)
