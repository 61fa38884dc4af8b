-- what the lines of a script have printed and left up to some line
use Rattle.std.proofs.Common.{◌≡◌, ◌+◌, ◌-◌, ◌⊎◌, ℕ, List, [], ◌++◌, Option, Some, None, Result, Ok, Err, IfSome, inl, inr, string_bytes, refl, subst, append_assoc, append-nil}
use Rattle.mr_script.proofs.Names.{Appends, BeginsToPrint, Breaks, Form, Global, Goes, Leads, LeadsTo, Line, MAX_SCRIPT_BYTES, NextGoes, Prints, PrintsSoFar}
use Rattle.mr_script.proofs.Names.{RanTo, Read, Runs, ScriptFault, Stage, String, Write, bare, breaks, end_of, lines_of, looked_at, option_map}
use Rattle.mr_command.specs.declared.fault.LineFault.TheVariants.{OutOfMemory}
use Rattle.mr_script.specs.Leaving.{LeavesBehind, ScriptLeaves}
use Rattle.mr_script.specs.Leaving.Leaves.{breaks as left_broken}
use Rattle.mr_script.specs.Writing.{Settles}
use Rattle.mr_script.proofs.Written.{Appends-both, Appends-nothing}

module _ {K : Type 0} (form : Form K) where
  -- where not even the first line can be read
  pub leaves_unread : (s : Stage K) (script : Option (List ℕ)) (fault : ScriptFault) → Breaks 1 fault → IfSome script (λ bytes. ScriptLeaves form s bytes (Some fault) s)
  leaves_unread s None fault broken = tt
  leaves_unread s (Some bytes) fault broken = left_broken broken

  pub none_ran : (s : Stage K) (script : Option (List ℕ)) (fault : ScriptFault) (old : Option (List ℕ)) (waits : List ℕ) → Breaks 1 fault → waits ≡ [] → IfSome script (λ bytes. RanTo form s bytes (Err fault) old old waits s)
  none_ran s None fault old waits broken empty = tt
  none_ran s (Some bytes) fault old waits broken empty = record {
    prints = λ _. record { written = []; are = Appends-nothing old; runs = rw empty (breaks broken) };
    so_far = record {
      written = [];
      are = Appends-nothing old;
      reached = bare;
      number = 1;
      room = MAX_SCRIPT_BYTES;
      rest = looked_at bytes;
      leads = λ end output runs. rw empty runs;
    };
    leaves = record { end = Some fault; is_end = inr refl; leaves = left_broken broken };
  }

  -- what waited was written, at the end
  pub prints_settled : (script : List ℕ) (end : Option ScriptFault) (old new newer : Option (List ℕ)) (waits still : List ℕ) → Prints form script end old new waits → Settles new newer waits still → Prints form script end old newer still
  prints_settled script end old new newer waits still so_far settles = record {
    written = so_far.written ++ settles.written;
    are = Appends-both old new newer so_far.written settles.written so_far.are settles.are;
    runs = rw (append_assoc so_far.written settles.written still, ← settles.all) so_far.runs;
  }

  -- and wherever the lines have come to
  pub begins : (script : List ℕ) (old new newer : Option (List ℕ)) (waits still : List ℕ) → PrintsSoFar form script old new waits → Settles new newer waits still → BeginsToPrint form script old newer
  begins script old new newer waits still so_far settles = (
    still,
    record {
      written = so_far.written ++ settles.written;
      are = Appends-both old new newer so_far.written settles.written so_far.are settles.are;
      reached = so_far.reached;
      number = so_far.number;
      room = so_far.room;
      rest = so_far.rest;
      leads = λ end output runs. rw (append_assoc so_far.written settles.written still, ← settles.all) (so_far.leads end output runs);
    },
  )

  -- what was written last doesn't change what is left
  pub written_behind : (first : Stage K) (script : List ℕ) (ran result : Result (Unit {0}) ScriptFault) (last : Stage K) → (result ≡ Err Write) ⊎ (result ≡ ran) → LeavesBehind form first script ran last → LeavesBehind form first script result last
  written_behind first script ran result last (inl failed) behind = record { end = behind.end; is_end = inl (inl failed); leaves = behind.leaves }
  written_behind first script ran result last (inr same) behind = rw same behind

  module _ (first : Stage K) (script : List ℕ) where
    -- the lines so far print the text and come to s, and the rest is left
    pub record CameTo (s : Stage K) (number taken : ℕ) (left : Option (List ℕ)) (text : List ℕ) : Type 0 where
      pub rest : List ℕ
      pub is_left : left ≡ Some rest
      pub leads : Leads form first 1 MAX_SCRIPT_BYTES (looked_at script) text s number (MAX_SCRIPT_BYTES - taken) rest

    -- that text is what was written and what waits
    pub record SoFar (s : Stage K) (number taken : ℕ) (left old new : Option (List ℕ)) (waits : List ℕ) : Type 0 where
      pub written : List ℕ
      pub are : Appends old new written
      pub came : CameTo s number taken left (written ++ waits)

    module _ (s : Stage K) (number taken : ℕ) (left : Option (List ℕ)) (text : List ℕ) (came : CameTo s number taken left text) where
      -- after one more line
      pub came_further : (new : Stage K) (line : String Global) (taken_then : ℕ) (left_then : Option (List ℕ))
          → IfSome left (λ bytes. NextGoes form s number (MAX_SCRIPT_BYTES - taken) bytes (Ok (Some line)) new left_then (MAX_SCRIPT_BYTES - taken_then))
          → CameTo new (number + 1) taken_then left_then (text ++ string_bytes line)
      came_further new line taken_then left_then next =
          let then = rw came.is_left at next in
          record {
            rest = then.0;
            is_left = then.1;
            leads = record {
              prints = λ end output runs. rw (append_assoc text (string_bytes line) output) (came.leads.prints end (string_bytes line ++ output) (then.2.prints end output runs));
              leaves = λ end last leaves. came.leads.leaves end last (then.2.leaves end last leaves);
            };
          }

      -- where the script ends here
      pub came_to_end : (end : Option ScriptFault) (last : Stage K) → IfSome left (λ bytes. Goes form s number (MAX_SCRIPT_BYTES - taken) (lines_of bytes) end [] last) → Goes form first 1 MAX_SCRIPT_BYTES (lines_of (looked_at script)) end text last
      came_to_end end last goes =
          let here = rw came.is_left at goes in
          record { prints = rw append-nil at (came.leads.prints end [] here.prints); leaves = came.leads.leaves end last here.leaves }

    module _ (s : Stage K) (number taken : ℕ) (left old new : Option (List ℕ)) (waits : List ℕ) (so_far : SoFar s number taken left old new waits) where
      -- after some of what waits was written
      pub so_far-settled : (newer : Option (List ℕ)) (still : List ℕ) → Settles new newer waits still → SoFar s number taken left old newer still
      so_far-settled newer still settles = record {
        written = so_far.written ++ settles.written;
        are = Appends-both old new newer so_far.written settles.written so_far.are settles.are;
        came = rw (append_assoc so_far.written settles.written still, ← settles.all) so_far.came;
      }

      -- after one more line
      pub so_far-more : (after : Stage K) (line : String Global) (taken_then : ℕ) (left_then : Option (List ℕ)) (waits_then : List ℕ)
          → IfSome left (λ bytes. NextGoes form s number (MAX_SCRIPT_BYTES - taken) bytes (Ok (Some line)) after left_then (MAX_SCRIPT_BYTES - taken_then)) → waits_then ≡ waits ++ string_bytes line
          → SoFar after (number + 1) taken_then left_then old new waits_then
      so_far-more after line taken_then left_then waits_then next pushed = record {
        written = so_far.written;
        are = so_far.are;
        came = rw (pushed, ← append_assoc so_far.written waits (string_bytes line)) (came_further s number taken left (so_far.written ++ waits) so_far.came after line taken_then left_then next);
      }

      -- what is printed where the lines end so
      printed : (end : Option ScriptFault) → first ≡ bare → Runs form first 1 MAX_SCRIPT_BYTES (lines_of (looked_at script)) end (so_far.written ++ waits) → Prints form script end old new waits
      printed end begun runs = record {
        written = so_far.written;
        are = so_far.are;
        runs = subst (λ (f : Stage K). Runs form f 1 MAX_SCRIPT_BYTES (lines_of (looked_at script)) end (so_far.written ++ waits)) begun runs;
      }

      a_beginning : first ≡ bare → PrintsSoFar form script old new waits
      a_beginning begun = record {
        written = so_far.written;
        are = so_far.are;
        reached = s;
        number = number;
        room = MAX_SCRIPT_BYTES - taken;
        rest = so_far.came.rest;
        leads = subst (λ (f : Stage K). LeadsTo form f 1 MAX_SCRIPT_BYTES (looked_at script) (so_far.written ++ waits) s number (MAX_SCRIPT_BYTES - taken) so_far.came.rest)
            begun so_far.came.leads.prints;
      }

      -- at a fault of the next line, or at the end
      pub ended : (result : Result (Unit {0}) ScriptFault) (last : Stage K) → first ≡ bare → IfSome left (λ bytes. Goes form s number (MAX_SCRIPT_BYTES - taken) (lines_of bytes) (end_of result) [] last) → RanTo form first script result old new waits last
      ended result last begun goes =
          let all = came_to_end s number taken left (so_far.written ++ waits) so_far.came (end_of result) last goes in
          record {
            prints = λ _. printed (end_of result) begun all.prints;
            so_far = a_beginning begun;
            leaves = record { end = end_of result; is_end = inr refl; leaves = all.leaves };
          }

      -- where a write failed
      pub cut : first ≡ bare → RanTo form first script (Err Write) old new waits s
      cut begun = record {
        prints = λ other. absurd (other refl);
        so_far = a_beginning begun;
        leaves = record { end = Some Read; is_end = inl (inl refl); leaves = so_far.came.leads.leaves (Some Read) s (left_broken (inl refl)) };
      }

      -- where there is no memory for the answer of one more line
      pub no_memory : first ≡ bare → (after : Stage K) (line : String Global) (taken_then : ℕ) (left_then : Option (List ℕ))
          → IfSome left (λ bytes. NextGoes form s number (MAX_SCRIPT_BYTES - taken) bytes (Ok (Some line)) after left_then (MAX_SCRIPT_BYTES - taken_then))
          → RanTo form first script (Err (Line number OutOfMemory)) old new waits after
      no_memory begun after line taken_then left_then next =
          let further = came_further s number taken left (so_far.written ++ waits) so_far.came after line taken_then left_then next in
          record {
            prints = λ _. printed (Some (Line number OutOfMemory)) begun
                (rw append-nil at (so_far.came.leads.prints (Some (Line number OutOfMemory)) [] (breaks (inr refl))));
            so_far = a_beginning begun;
            leaves = record { end = Some Read; is_end = inl (inr (number, refl)); leaves = further.leads.leaves (Some Read) after (left_broken (inl refl)) };
          }

  -- before the first line
  pub came_none : (first : Stage K) (script : Option (List ℕ)) (taken : ℕ) (left : Option (List ℕ)) → left ≡ option_map looked_at script → taken ≡ 0 → IfSome script (λ bytes. CameTo first bytes first 1 taken left [])
  came_none first None taken left is none = tt
  came_none first (Some bytes) taken left is none = rw none (record {
    rest = looked_at bytes;
    is_left = is;
    leads = record { prints = λ end output runs. runs; leaves = λ end last leaves. leaves };
  })
