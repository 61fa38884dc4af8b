use Rattle.std.proofs.Common.{◌<◌, ◌∙◌, ◌∷◌, None, ap, sym, refl, lit<}
use Rattle.std.specs.Fmt.{decimal}
use Rattle.mr_command.proofs.Names.{Asks, Pool, Receipts, Records, strip_prefix_char}
use Rattle.mr_command.specs.Pool.{letter_of}
use Rattle.mr_command.proofs.named.read_frame_number.Goals as goal

letter_of-small : (pool : Pool) → letter_of pool < 128
letter_of-small Asks = lit< tt
letter_of-small Records = lit< tt
letter_of-small Receipts = lit< tt

pub returns-in-None : goal.returns-in-None
returns-in-None c =
    let none = strip_prefix_char c.letter.result c.args.word.now None c.in-None.ensures.cases (rw c.letter.ensures (letter_of-small c.args.pool)) in
    (refl, λ n spells. none (decimal n) (spells.spelled ∙ ap (λ l. l ∷ decimal n) (sym c.letter.ensures)))
