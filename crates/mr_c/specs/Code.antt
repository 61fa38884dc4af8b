-- the numbers that C sees
use Rattle.std.specs.Prelude.{ℕ, ℤ, pos, Result, Ok, Err}
use Rattle.mr_desk.specs.Fault.{fault_number}
use Rattle.mr_c.specs.declared.failure.Failure.{Failure}
use Rattle.mr_c.specs.declared.failure.Failure.TheVariants.{Closed, InUse, TooSmall, NotThere, Desk}

abbrev pub failure_number : Failure → ℕ
failure_number Closed = 2
failure_number InUse = 3
failure_number TooSmall = 5
failure_number NotThere = 6
failure_number (Desk fault) = fault_number fault

-- the number of an answer
abbrev pub code_of : {X : Type 0} → Result X Failure → ℤ
code_of (Ok x) = pos 0
code_of (Err failure) = pos (failure_number failure)
