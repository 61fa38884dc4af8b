use Rattle.std.specs.Prelude.{◌≡◌, ◌+◌, ◌<◌, ◌≤◌, ◌⊎◌, ℕ, Bool, true, false, ◌||◌, ◌&&◌, ◌==◌, nat_le, List, AllPairs}
use Rattle.std.specs.List.{list_any}
use Rattle.mr_version.specs.Name.{Name, IsVersion}
use Rattle.mr_forms.specs.Sets.{Versions, IsSame}
use Rattle.mr_forms.specs.declared.run.Run.{Run}
use Rattle.mr_version.specs.declared.author.TheConstants.{AUTHORS}

-- whether v is one of the run's versions
abbrev pub in_run : Run → Versions
in_run run v = (v.author == run.author) && (nat_le run.first v.counter && nat_le v.counter run.last)

-- the set with a run more
abbrev pub with_run : Versions → Run → Versions
with_run s run = λ v. in_run run v || s v

-- whether v is in one of the runs
abbrev pub in_runs : List Run → Versions
in_runs runs v = list_any (λ run. in_run run v) runs

-- the one stands before the other, and a version of neither between them where the author is the same
abbrev pub StandsBefore : Run → Run → Type 0
StandsBefore a b = (a.author < b.author) ⊎ ((a.author ≡ b.author) × (a.last + 1 < b.first))

-- the set, as its longest runs in rising order
pub record AreRunsOf (set : Versions) (runs : List Run) : Type 0 where
  pub have : IsSame set (in_runs runs)
  pub apart : AllPairs StandsBefore runs

-- the set has nothing but versions
abbrev pub HasVersionsAlone : Versions → Type 0
HasVersionsAlone set = (v : Name) → set v ≡ true → IsVersion v.author v.counter

-- the set's test, for one author
abbrev pub of_author : Versions → ℕ → ℕ → Bool
of_author set author counter = set (record { author = author; counter = counter })

-- the set has nothing of the author
abbrev pub HasNoneOf : Versions → ℕ → Type 0
HasNoneOf set author = (c : ℕ) → of_author set author c ≡ false

-- the set has nothing of the authors from this id on
abbrev pub HasNoAuthorFrom : Versions → ℕ → Type 0
HasNoAuthorFrom set id = (q : ℕ) → id ≤ q → HasNoneOf set q

-- an author from this id on, and the set has nothing of those that are passed over
pub record IsNextAuthor (set : Versions) (id author : ℕ) : Type 0 where
  pub above : id ≤ author
  pub author_in : author < AUTHORS
  pub between : (q : ℕ) → id ≤ q → q < author → HasNoneOf set q

-- the set has no version of the author from the counter on
abbrev pub HasNoRunFrom : Versions → ℕ → ℕ → Type 0
HasNoRunFrom set author from = (c : ℕ) → from ≤ c → of_author set author c ≡ false

-- the first of the author's counters from here on that the set has
pub record IsFirstFrom (set : Versions) (author from first : ℕ) : Type 0 where
  pub above : from ≤ first
  pub is_in : of_author set author first ≡ true
  pub before : (c : ℕ) → from ≤ c → c < first → of_author set author c ≡ false

-- the last counter of those that the set has without a gap from this one on
pub record IsEndOfRun (set : Versions) (author first last : ℕ) : Type 0 where
  pub ordered : first ≤ last
  pub is_in : (c : ℕ) → first ≤ c → c ≤ last → of_author set author c ≡ true
  pub after : of_author set author (last + 1) ≡ false

-- the author's first unbroken run from a counter on, as long as can be
pub record IsRunFrom (set : Versions) (author from : ℕ) (run : Run) : Type 0 where
  pub same_author : run.author ≡ author
  pub begins : IsFirstFrom set author from run.first
  pub ends : IsEndOfRun set author run.first run.last
