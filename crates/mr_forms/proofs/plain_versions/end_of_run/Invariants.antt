use Rattle.std.proofs.Common.{◌≡◌, ◌≤◌, ℕ, true}
use Rattle.mr_forms.proofs.Names.{is_listed, of_author}
use Rattle.mr_forms.proofs.plain_versions.end_of_run.Given as goal

-- the counters up to here are all in the set
abbrev pub invariant-loop-counter : goal.invariant-loop-counter
invariant-loop-counter l = (k : ℕ) → l.first ≤ k → k ≤ l.counter → of_author (is_listed l.versions.keys) l.author k ≡ true
