-- a picture that is written, or not
use Rattle.std.specs.Prelude.{◌≡◌, ◌⊎◌, ℕ, List, Option, Result, Ok, Err, string_bytes}
use Rattle.std.specs.declared.string.String.{String}
use Rattle.std.specs.declared.alloc.AllocError.{AllocError}
use Rattle.std.specs.declared.alloc.Global.{Global}
use Rattle.mr_program.specs.declared.ending.Fault.{Fault}
use Rattle.mr_program.specs.declared.ending.Fault.TheVariants.{OutOfMemory}
use Rattle.mr_program.specs.declared.ending.Ending.{Ending}
use Rattle.mr_program.specs.declared.ending.Ending.TheVariants.{Stopped}
use Rattle.mr_program.specs.inner.Printing.{PrintsText}

-- The picture was written and the program ends as the script did, or ends for what kept it from being written; or there was no memory for a picture.
abbrev pub PrintsPicture : Result (String Global) AllocError → (ran result : Ending) → (old new : Option (List ℕ)) → Type 0
PrintsPicture (Ok svg) ran result old new =
    ((result ≡ ran) × PrintsText (string_bytes svg) (Ok tt) old new) ⊎ ((fault : Fault) × (result ≡ Stopped fault) × PrintsText (string_bytes svg) (Err fault) old new)
PrintsPicture (Err error) ran result old new = (result ≡ Stopped OutOfMemory) × (new ≡ old)
