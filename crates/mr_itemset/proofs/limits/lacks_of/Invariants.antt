use Rattle.std.proofs.Common.{◌≡◌, ◌<◌, ◌≤◌, ◌-◌, ℕ, true}
use Rattle.mr_forms.specs.Runs.{of_author}
use Rattle.mr_itemset.proofs.limits.lacks_of.Given as goal

-- up to here the source has what the set has
abbrev pub invariant-loop-first : goal.invariant-loop-first
invariant-loop-first g l = record {
  from_one : 1 ≤ l.from;
  in_range : l.from ≤ 1000001;
  covered : (c : ℕ) → 1 ≤ c → c < l.from → of_author (g.S.Source.has l.set) l.author c ≡ true → of_author (g.A.Source.has l.source) l.author c ≡ true;
}

abbrev pub decreases-loop-first : goal.decreases-loop-first
decreases-loop-first g l = 1000002 - l.from
