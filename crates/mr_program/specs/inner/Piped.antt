-- the bytes that writers hold that hand them on
use Rattle.std.specs.Prelude.{ℕ, List, Option}
use Rattle.mr_program.specs.declared.noticing.Noticing.{Noticing}
use Rattle.mr_program.specs.declared.piped.Piped.{Piped}

-- the bytes that a piped writer holds: those of its writer
abbrev pub piped_contents : {W : Type 0} → (W → Option (List ℕ)) → Piped W → Option (List ℕ)
piped_contents contents piped = contents piped.writer

abbrev pub noticing_contents : {W : Type 0} → (W → Option (List ℕ)) → Noticing W → Option (List ℕ)
noticing_contents contents noticing = contents noticing.writer
