use Rattle.std.proofs.Common.{◌≡◌, take, drop, codes, arith, rules}
use Rattle.mr_journal.proofs.RestoreLemmas.{head_read}
use Rattle.mr_journal.proofs.restore.check_head.Goals as goal

pub returns-then-format-ne-FORMAT : goal.returns-then-format-ne-FORMAT
returns-then-format-ne-FORMAT c =
    let first = c.args.first.now in
    let front : take 8 first ≡ codes "Jimetsal" = search rules in
    let number : c.copy_from_slice.new.self ≡ take 2 (drop 8 first) = c.copy_from_slice.ensures.after in
    (head_read first c.copy_from_slice.new.self c.from_be_bytes-format.result (omega arith) front number (λ i. omega (arith, c.type_inv.first i)) c.from_be_bytes-format.ensures, omega arith, c.if-format-ne-FORMAT.true)
