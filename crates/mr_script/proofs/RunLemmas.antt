-- one line of a script after another
use Rattle.std.proofs.Common.{◌≡◌, ◌+◌, ◌-◌, ◌<◌, ◌≤◌, ℕ, List, [], length, Option, Some, None, Ok, Err, inl, inr, refl, arith}
use Rattle.mr_script.proofs.Names.{Form, Goes, IsNextLine, Leads, Line, LineDoes, LineFault, MAX_SCRIPT_BYTES, Stage, TakesLine, all_run, at_fault, breaks}
use Rattle.mr_script.proofs.Names.{drop_through, fault_of_source, lines_of, take_through, too_long}
use Rattle.mr_script.specs.declared.source.SourceFault.{SourceFault}
use Rattle.mr_script.specs.declared.source.SourceFault.TheVariants as source
use Rattle.mr_script.specs.Leaving.Leaves.{all_run as left_all, breaks as left_broken, too_long as left_long, at_fault as left_at_fault, goes_on as left_further}
use Rattle.mr_script.specs.Run.Runs.{prints as prints_line}
use Rattle.mr_script.proofs.LineLemmas.{lines-first}

module _ {K : Type 0} (form : Form K) (s : Stage K) (number taken : ℕ) (bytes line : List ℕ) (left : Option (List ℕ)) (taken_then : ℕ) where
  -- a line that can't be had ends the script, and leaves what is there
  pub next_fault : (f : SourceFault) → taken ≤ MAX_SCRIPT_BYTES → TakesLine bytes taken (Err f) line left taken_then → Goes form s number (MAX_SCRIPT_BYTES - taken) (lines_of bytes) (Some (fault_of_source number f)) [] s
  next_fault source.OutOfMemory few h = record { prints = breaks (inr refl); leaves = left_broken (inr refl) }
  next_fault source.Read few h = record { prints = breaks (inl refl); leaves = left_broken (inl refl) }
  next_fault source.TooLong few h =
      let over : MAX_SCRIPT_BYTES - taken < length (take_through 10 bytes) = omega (arith, h.1) in
      rw (lines-first bytes h.0) (record { prints = too_long over; leaves = left_long over })

  -- so does the end of the bytes
  pub next_none : bytes ≡ [] → Goes form s number (MAX_SCRIPT_BYTES - taken) (lines_of bytes) None [] s
  next_none none = rw none (record { prints = all_run; leaves = left_all })

  -- and a line that is at fault, which leaves what it did before
  pub next_at_fault : (new : Stage K) (f : LineFault) → taken_then ≤ MAX_SCRIPT_BYTES → IsNextLine bytes taken line left taken_then → LineDoes form s line (Err f) new → Goes form s number (MAX_SCRIPT_BYTES - taken) (lines_of bytes) (Some (Line number f)) [] new
  next_at_fault new f few next does =
      let fits : length (take_through 10 bytes) ≤ MAX_SCRIPT_BYTES - taken = omega (arith, next.counted) in
      rw (lines-first bytes next.some) (record { prints = at_fault new fits (rw next.text at does); leaves = left_at_fault fits (rw next.text at does) })

  -- a line that prints a text leads on to the lines after it
  pub next_text : (new : Stage K) (text : List ℕ) → taken_then ≤ MAX_SCRIPT_BYTES → IsNextLine bytes taken line left taken_then → LineDoes form s line (Ok text) new → (rest : List ℕ) × (left ≡ Some rest) × Leads form s number (MAX_SCRIPT_BYTES - taken) bytes text new (number + 1) (MAX_SCRIPT_BYTES - taken_then) rest
  next_text new text few next does =
      let room : MAX_SCRIPT_BYTES - taken_then ≡ (MAX_SCRIPT_BYTES - taken) - length (take_through 10 bytes) = omega (arith, next.counted) in
      let fits : length (take_through 10 bytes) ≤ MAX_SCRIPT_BYTES - taken = omega (arith, next.counted) in (
        drop_through 10 bytes,
        next.rest,
        record {
          prints = λ end output runs. rw (lines-first bytes next.some) (prints_line new fits (rw next.text at does) (rw room at runs));
          leaves = λ end last leaves. rw (lines-first bytes next.some) (left_further new text fits (rw next.text at does) (rw room at leaves));
        },
      )
