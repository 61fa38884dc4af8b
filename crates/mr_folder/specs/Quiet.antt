-- listings of folders that other programs may change meanwhile
use Rattle.std.specs.Prelude.{◌≡◌, ℕ, ◌<◌, ◌≤◌, List, [], length, map, slice_index_or, string_bytes, Vec}
use Rattle.std.specs.declared.string.String.{String}
use Rattle.std.specs.declared.alloc.Global.{Global}

-- what was in each folder at each moment: the names of its files, and the time that the system told of it; moment first
pub record Past : Type 0 where
  pub names : ℕ → ℕ → List (List ℕ)
  pub time : ℕ → ℕ → ℕ

-- a folder that has the same time at two moments was not changed between them
abbrev pub TellsChanges : Past → Type 0
TellsChanges past = (folder i k j : ℕ) → i ≤ k → k ≤ j → past.time i folder ≡ past.time j folder → past.names k folder ≡ past.names i folder

-- from one moment to the other the folder had the same names
abbrev pub IsStill : Past → ℕ → ℕ → ℕ → Type 0
IsStill past folder from to = (k : ℕ) → from ≤ k → k ≤ to → past.names k folder ≡ past.names from folder

-- each of so many folders kept its time from one moment to the other
abbrev pub KeepTimes : Past → ℕ → ℕ → ℕ → Type 0
KeepTimes past count from to = (folder k : ℕ) → folder < count → from ≤ k → k ≤ to → past.time k folder ≡ past.time from folder

-- at some moment between these two
pub record Between (from to : ℕ) (P : ℕ → Type 0) : Type 0 where
  pub moment : ℕ
  pub no_sooner : from ≤ moment
  pub no_later : moment ≤ to
  pub holds : P moment

-- all folders had these names at one moment
abbrev pub IsSnapshot : Past → List (List (List ℕ)) → ℕ → Type 0
IsSnapshot past names m = (folder : ℕ) → folder < length names → slice_index_or names folder [] ≡ past.names m folder

-- the names of each folder as bytes
abbrev pub texts : List (Vec (String Global) Global) → List (List (List ℕ))
texts folders = map (λ v. map (λ s. string_bytes s) v.items) folders
