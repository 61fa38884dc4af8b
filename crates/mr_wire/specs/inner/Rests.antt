-- what the steps of decoding answer
use Rattle.std.specs.Prelude.{◌≡◌, ℕ, List, Result, Ok, Err}
use Rattle.std.specs.Borrow.{Bor}
use Rattle.mr_wire.specs.declared.fault.WireFault.{WireFault}
use Rattle.mr_wire.specs.declared.kind.Kind.{Kind}
use Rattle.mr_wire.specs.Prefixed.{rest_of}
use Rattle.mr_wire.specs.Decoding.{rest_faults, kind_and_parts}

abbrev pub AnswersRest : List ℕ → Result (Bor (List ℕ)) WireFault → Type 0
AnswersRest bytes (Ok rest) = rest_of rest_faults bytes ≡ Ok rest.now
AnswersRest bytes (Err fault) = rest_of rest_faults bytes ≡ Err fault

abbrev pub AnswersKind : List ℕ → Result (Kind × Bor (List ℕ)) WireFault → Type 0
AnswersKind rest (Ok head) = kind_and_parts rest ≡ Ok (head.0, head.1.now)
AnswersKind rest (Err fault) = kind_and_parts rest ≡ Err fault
