use Rattle.std.proofs.Common.{◌≡◌, ◌||◌, All, AllPairs}
use Rattle.mr_forms.proofs.Names.{EndsBelow, IsStrictlySortedBy, Name, StandsBefore, in_runs, is_listed, name_cmp}
use Rattle.mr_forms.proofs.plain_versions.PlainVersionsVersionSet.columns.Given as goal

-- the runs so far and what is left are all, and the runs end below what is left
abbrev pub invariant-loop-version : goal.invariant-loop-version
invariant-loop-version l = record {
  have : (v : Name) → (in_runs l.runs.items v || is_listed l.version-iterator v) ≡ is_listed l.fn.self v;
  apart : AllPairs StandsBefore l.runs.items;
  ahead : All (λ v. All (EndsBelow v) l.runs.items) l.version-iterator;
  sorted : IsStrictlySortedBy name_cmp l.version-iterator;
}
