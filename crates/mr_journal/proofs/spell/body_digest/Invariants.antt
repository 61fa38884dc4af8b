use Rattle.std.proofs.Common.{◌≡◌, ◌++◌, List, ℕ, length}
use Rattle.sha2.specs.Hashers.{Holds256}
use Rattle.mr_journal.specs.Format.{AreEntries, body, contents}
use Rattle.mr_journal.proofs.spell.body_digest.Given as goal

abbrev pub invariant-loop-rest : goal.invariant-loop-rest
invariant-loop-rest l = record {
  so_far : (m : List ℕ) × Holds256 l.hasher m × (m ++ body (contents l.rest) ≡ body (contents l.entries));
  fit : AreEntries (contents l.rest);
}

abbrev pub decreases-loop-rest : goal.decreases-loop-rest
decreases-loop-rest l = length l.rest
