use Rattle.std.specs.Prelude.{◌&&◌}
use Rattle.mr_forms.specs.Sets.{Versions}

-- what is in both sets
abbrev pub in_both : Versions → Versions → Versions
in_both s t = λ v. s v && t v
