use Rattle.std.proofs.Common.{◌≡◌, ◌++◌, List, ℕ, length}
use Rattle.mr_journal.specs.Format.{AreEntries, body, contents}
use Rattle.mr_journal.proofs.read.split_body.Given as goal

abbrev pub invariant-loop-rest : goal.invariant-loop-rest
invariant-loop-rest l = record {
  done : (more : List (List ℕ)) × AreEntries more × (l.bytes ≡ body more ++ l.rest) × (contents l.entries.items ≡ contents l.fn.entries.items ++ more);
  left : (more : List (List ℕ)) → AreEntries more → l.bytes ≡ body more → (others : List (List ℕ)) × AreEntries others × (l.rest ≡ body others);
}

abbrev pub decreases-loop-rest : goal.decreases-loop-rest
decreases-loop-rest l = length l.rest
