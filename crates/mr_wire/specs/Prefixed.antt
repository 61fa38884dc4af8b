-- what stands behind a length, or the first thing that is wrong with it
use Rattle.std.specs.Prelude.{ℕ, ◌==◌, nat_lt, if◌then◌else◌, List, length, Option, Some, None, Result, Ok, Err}
use Rattle.std.specs.Int.{w32}
use Rattle.mr_wire.specs.declared.decoding.TheConstants.{MAX_REST_BYTES}
use Rattle.mr_wire.specs.Reading.{Reader, ◌>>=◌, number_at, bytes_at}

-- the value, or the fault where there is none
abbrev pub or_fault : {X E : Type 0} → E → Option X → Result X E
or_fault fault None = Err fault
or_fault fault (Some x) = Ok x

-- the next step, where this one gives a value
abbrev pub and_then : {X Y E : Type 0} → Result X E → (X → Result Y E) → Result Y E
and_then (Ok x) f = f x
and_then (Err fault) f = Err fault

-- the faults of a length and of the bytes behind it
pub record RestFaults (E : Type 0) : Type 0 where
  pub truncated : E
  pub too_long : E
  pub bad_body : E

-- so many bytes behind a length
abbrev pub rest_from : {E : Type 0} → RestFaults E → ℕ × List ℕ → Result (List ℕ) E
rest_from faults len =
    if nat_lt MAX_REST_BYTES len.0 then Err faults.too_long
    else (if nat_lt len.0 2 then Err faults.bad_body
    else or_fault faults.truncated (bytes_at len.0 len.1 >>= λ found. Some found.0))

-- what stands behind the first length
abbrev pub rest_of : {E : Type 0} → RestFaults E → List ℕ → Result (List ℕ) E
rest_of faults bytes = and_then (or_fault faults.truncated (number_at w32 bytes)) (rest_from faults)

-- the part that the bytes are, all of them
abbrev pub whole_at : {X : Type 0} → Reader X → List ℕ → Option X
whole_at at bytes = at bytes >>= λ found. if length found.1 == 0 then Some found.0 else None
