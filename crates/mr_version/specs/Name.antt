use Rattle.std.specs.Prelude.{◌<◌, ◌≤◌, ℕ, Bool, refl, List, ◌∷◌, ◌++◌}
use Rattle.std.specs.declared.cmp.Ordering.{Ordering}
use Rattle.std.specs.Ordering.{nat_cmp, ordering_then, eq_by_cmp}
use Rattle.std.specs.Coded.{Coded, code_by, coded×, coded_ℕ}
use Rattle.std.specs.Fmt.{decimal}
use Rattle.mr_version.specs.declared.author.TheConstants.{AUTHORS}
use Rattle.mr_version.specs.declared.version.TheConstants.{MAX_COUNTER}

-- a version as contracts see it: who issued it, and its number among those
pub record Name : Type 0 where
  pub author : ℕ
  pub counter : ℕ

-- a name is stored as the pair of its parts
abbrev pub name_code : Coded Name
name_code =
    code_by (ℕ × ℕ) (coded× coded_ℕ coded_ℕ) (λ v. (v.author, v.counter)) (λ p. record { author = p.0; counter = p.1 }) (λ _. refl)

-- what is a version: an author of 0 to 63, a counter of 1 to 1,000,000
pub record IsVersion (author counter : ℕ) : Type 0 where
  pub author_in : author < AUTHORS
  pub counter_from : 1 ≤ counter
  pub counter_to : counter ≤ MAX_COUNTER

-- by author, then by counter
abbrev pub name_cmp : Name → Name → Ordering
name_cmp a b = ordering_then (nat_cmp a.author b.author) (nat_cmp a.counter b.counter)

-- whether two names are one
abbrev pub name_eq : Name → Name → Bool
name_eq = eq_by_cmp name_cmp

-- A.C in decimal
abbrev pub name_text : Name → List ℕ
name_text v = decimal v.author ++ 46 ∷ decimal v.counter
