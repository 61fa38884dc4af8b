-- the bytes that are left of a reader that remembers
use Rattle.std.specs.Prelude.{ℕ, List, Option}
use Rattle.mr_program.specs.declared.remembering.Remembering.{Remembering}

-- the bytes that a remembering reader has left: those of its reader
abbrev pub remembering_remaining : {R : Type 0} → (R → Option (List ℕ)) → Remembering R → Option (List ℕ)
remembering_remaining remaining remembering = remaining remembering.reader
