use Rattle.std.proofs.Common.{◌≡◌, ◌-◌, ℕ, List, length, take, drop, ◌∙◌, ap, arith, length-drop}
use Rattle.std.proofs.lemmas.List.{take_rest}
use Rattle.mr_journal.proofs.ReadLemmas.{is_entry, spelled_u32}
use Rattle.mr_journal.proofs.read.split_entry.Goals as goal

pub returns-clause-split : goal.returns-clause-split
returns-clause-split c =
    let bytes = c.args.bytes.now in
    let count = c.from_be_bytes-count.result in
    let number : c.copy_from_slice.new.self ≡ take 4 bytes = c.copy_from_slice.ensures.after in
    let first = spelled_u32 bytes c.copy_from_slice.new.self count c.copy_from_slice.ensures.len number (λ i. omega (arith, c.type_inv.bytes i)) c.from_be_bytes-count.ensures in
    let behind : take (length bytes - 4) (drop 4 bytes) ≡ drop 4 bytes = take_rest bytes 4 in
    let long : length (take (length bytes - 4) (drop 4 bytes)) ≡ length bytes - 4 = ap length behind ∙ length-drop 4 bytes in
    let entry : c.split_at.result.0.now ≡ take count (drop 4 bytes) = c.split_at.ensures.front ∙ ap (λ (l : List ℕ). take count l) behind in
    let rest : c.split_at.result.1.now ≡ drop count (drop 4 bytes) = c.split_at.ensures.back ∙ ap (λ (l : List ℕ). drop count l) behind in
    (is_entry bytes c.split_at.result.0.now c.split_at.result.1.now count (omega (arith, long)) first entry rest, omega (arith, c.split_at.ensures.front_len))
