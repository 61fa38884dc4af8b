use Rattle.std.specs.Prelude.{◌≡◌, ◌<◌, ◌≤◌, ◌⊎◌, List, All, AllPairs}
use Rattle.mr_version.specs.Name.{Name}
use Rattle.mr_forms.specs.Sets.{IsSame, with_version}
use Rattle.mr_forms.specs.Runs.{in_runs, StandsBefore}
use Rattle.mr_forms.specs.declared.run.Run.{Run}

-- each version of the run is below v
abbrev pub EndsBelow : Name → Run → Type 0
EndsBelow v run = (run.author < v.author) ⊎ ((run.author ≡ v.author) × (run.last < v.counter))

-- no version of the run is above v
abbrev pub EndsUpTo : Name → Run → Type 0
EndsUpTo v run = (run.author < v.author) ⊎ ((run.author ≡ v.author) × (run.last ≤ v.counter))

-- the runs have gained a version above all of theirs
pub record GainsVersion (old new : List Run) (version : Name) : Type 0 where
  pub have : IsSame (in_runs new) (with_version (in_runs old) version)
  pub apart : AllPairs StandsBefore old → AllPairs StandsBefore new
  pub up_to : All (EndsUpTo version) new
