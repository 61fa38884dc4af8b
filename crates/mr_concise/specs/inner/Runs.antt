use Rattle.std.specs.Prelude.{◌≡◌, ◌<◌, ◌+◌, ◌⊎◌, ℕ, ◌||◌, ◌&&◌, ◌==◌, List, AllPairs, All}
use Rattle.mr_version.specs.Name.{Name}
use Rattle.mr_forms.specs.declared.run.Run.{Run}
use Rattle.mr_forms.specs.Runs.{in_runs, StandsBefore}
use Rattle.mr_concise.specs.Column.{Extent, column_has}

-- each run is of a lower author, or of this one, and ends two or more counters before start
abbrev pub EndBefore : ℕ → ℕ → List Run → Type 0
EndBefore author start runs = All (λ run. (run.author < author) ⊎ ((run.author ≡ author) × (run.last + 1 < start))) runs

-- the new runs have what the old ones have and the author's column, and keep apart
pub record AddsRuns (author : ℕ) (column : Extent) (old new : List Run) : Type 0 where
  pub have : (v : Name) → in_runs new v ≡ (in_runs old v || ((v.author == author) && column_has column v.counter))
  pub apart : AllPairs StandsBefore old → AllPairs StandsBefore new
  pub ended : EndBefore (author + 1) 1 new
