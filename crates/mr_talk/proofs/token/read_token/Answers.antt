use Rattle.std.proofs.Common.{◌≡◌, ◌-◌, ℕ, arith, ap, take, ◌∙◌}
use Rattle.std.proofs.lemmas.List.{take_rest}
use Rattle.mr_talk.proofs.PackedLaws.{long_begins}
use Rattle.mr_talk.proofs.token.read_token.Goals as goal

pub returns-in_ok-bytes-in_default-head-clause-found : goal.returns-in_ok-bytes-in_default-head-clause-found
returns-in_ok-bytes-in_default-head-clause-found c =
    let found = c.in_ok-size-in_default-head in
    let size = c.from_be_bytes-size.result in
    let lookup = c.in_ok-bytes-in_default-head.ensures.lookup in
    let whole : size - 0 ≡ size = omega arith in
    long_begins c.args.bytes.now _ found.size.now found.rest.now c.in_ok-bytes-in_default-head.bytes.now size
    (omega arith) (omega (arith, c.type_inv.bytes 0)) (take_rest c.args.bytes.now 1) found.ensures.cases.0 found.ensures.cases.1 (omega (arith, found.ensures.cases.2)) (λ i. omega (arith, c.type_inv.bytes i))
    c.from_be_bytes-size.ensures (lookup.0.2 ∙ ap (λ (n : ℕ). take n found.rest.now) whole) (omega arith) (omega (arith, c.from_be_bytes-size.type_inv))
