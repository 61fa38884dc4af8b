-- versions by their numbers
use Rattle.std.specs.Prelude.{◌&&◌, ℕ, Bool, not, nat_le, nat_lt, if◌then◌else◌, find, is_some, List, Option, Some, None}
use Rattle.mr_version.specs.Name.{Name}
use Rattle.mr_version.specs.declared.author.TheConstants.{AUTHORS}
use Rattle.mr_version.specs.declared.version.TheConstants.{MAX_COUNTER}
use Rattle.mr_version.specs.declared.fault.VersionFault.{VersionFault}
use Rattle.mr_version.specs.declared.fault.VersionFault.TheVariants.{NoSuchAuthor, BadVersion}
use Rattle.mr_desk.specs.declared.call.VersionNumbers.{VersionNumbers}

-- the numbers of a version, and the version with these numbers
abbrev pub numbers_of : Name → VersionNumbers
numbers_of v = record { author = v.author; counter = v.counter }

abbrev pub named_by : VersionNumbers → Name
named_by n = record { author = n.author; counter = n.counter }

-- the number of an author
abbrev pub is_author : ℕ → Bool
is_author n = nat_lt n AUTHORS

-- why there is no version with these numbers: first its author, then its counter
abbrev pub version_fault : VersionNumbers → Option VersionFault
version_fault n =
    if not (nat_lt n.author AUTHORS) then Some NoSuchAuthor
    else (if nat_le 1 n.counter && nat_le n.counter MAX_COUNTER then None else Some BadVersion)

-- the first of these that name no version, and its fault
abbrev pub first_unnamed : List VersionNumbers → Option VersionNumbers
first_unnamed ns = find (λ n. is_some (version_fault n)) ns

abbrev pub first_version_fault : List VersionNumbers → Option VersionFault
first_version_fault ns = elim (first_unnamed ns) [
  | Some n ↦ version_fault n
  | None ↦ None
]
