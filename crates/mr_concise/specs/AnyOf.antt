use Rattle.std.specs.Prelude.{ℕ, nat_le, if◌then◌else◌, List, Option, Some, None}
use Rattle.std.specs.List.{list_any}
use Rattle.mr_forms.specs.Sets.{Versions}

-- what one of them has
abbrev pub in_any : {X : Type 0} → (X → Versions) → List X → Versions
in_any has xs v = list_any (λ x. has x v) xs

-- the lower one, where there are any
abbrev pub lower_of : Option ℕ → Option ℕ → Option ℕ
lower_of None end = end
lower_of (Some s) None = Some s
lower_of (Some s) (Some t) = Some (if nat_le s t then s else t)
