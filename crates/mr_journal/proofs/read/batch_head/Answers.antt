use Rattle.std.proofs.Common.{◌≡◌, ℕ, ◌-◌, List, length, get_or, take, drop, length-drop, ◌∙◌, ap, arith, rules}
use Rattle.std.proofs.lemmas.List.{take_all, take_rest, drop-drop}
use Rattle.mr_journal.proofs.ReadLemmas.{open_head}
use Rattle.mr_journal.proofs.read.batch_head.Goals as goal

pub returns-in-1 : goal.returns-in-1
returns-in-1 c =
    let bytes = c.args.bytes.now in
    let first : get_or bytes 0 0 ≡ 1 = search rules in
    let long : length bytes ≡ 41 = search rules in
    let numbers : take (length bytes - 1) (drop 1 bytes) ≡ drop 1 bytes = take_rest bytes 1 in
    let size : c.copy_from_slice-in-1.new.self ≡ take 8 (drop 1 bytes) = c.copy_from_slice-in-1.ensures.after ∙ ap (λ (l : List ℕ). take 8 l) numbers in
    let digest : c.copy_from_slice.new.self ≡ drop 9 bytes = c.copy_from_slice.ensures.after ∙ take_all _ _ (omega (arith, length-drop {A = ℕ})) ∙ ap (λ (l : List ℕ). drop 8 l) numbers ∙ drop-drop 8 1 bytes in
    (open_head bytes c.copy_from_slice-in-1.new.self c.copy_from_slice.new.self c.from_be_bytes.result long (λ i. omega (arith, c.type_inv.bytes i)) first size digest c.from_be_bytes.ensures, c.copy_from_slice.ensures.len, omega arith)
