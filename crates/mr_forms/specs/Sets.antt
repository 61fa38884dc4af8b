use Rattle.std.specs.Prelude.{◌≡◌, true, ◌||◌}
use Rattle.mr_version.specs.Name.{Name, name_eq}
pub use Rattle.mr_version.specs.Sets.{Versions, is_listed}

-- the set with one version more
abbrev pub with_version : Versions → Name → Versions
with_version s version = λ v. name_eq version v || s v

-- both sets together
abbrev pub both : Versions → Versions → Versions
both s t = λ v. s v || t v

-- two sets have the same versions
abbrev pub IsSame : Versions → Versions → Type 0
IsSame s t = (v : Name) → s v ≡ t v

-- what is in t is in s
abbrev pub Covers : Versions → Versions → Type 0
Covers s t = (v : Name) → t v ≡ true → s v ≡ true
