-- the highest version of an author among those that are known of some item
use Rattle.std.specs.Prelude.{◌≡◌, ◌≤◌, ℕ, true, false, Option, MatchOption}
use Rattle.mr_version.specs.Name.{Name}
use Rattle.mr_forms.specs.Known.{Pairs}

-- none of the author is known
abbrev pub HasNone : Pairs → (author : ℕ) → Type 0
HasNone known author = (item version : Name) → version.author ≡ author → known item version ≡ false

-- a version with this counter is known of some item, and none of the author with a higher one of any
pub record IsHighest (known : Pairs) (author counter : ℕ) : Type 0 where
  pub item : Name
  pub is_known : known item (record { author = author; counter = counter }) ≡ true
  pub highest : (other version : Name) → version.author ≡ author → known other version ≡ true → version.counter ≤ counter

-- it is the highest counter of the author's versions that are known of some item; or none of the author is known
abbrev pub IsHighestFound : Pairs → (author : ℕ) → Option ℕ → Type 0
IsHighestFound known author found = MatchOption found (HasNone known author) (IsHighest known author)
