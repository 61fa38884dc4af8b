use Rattle.std.proofs.Common.{ℕ, List, not, rules, tests}
use Rattle.mr_maildir.proofs.Names.{YieldsList-at, YieldsList-from_slice_split, YieldsList-from_take_while, is_end, map_from_collect, ◌==◌}
use Rattle.mr_maildir.proofs.header.header_lines.Goals as goal

pub returns : goal.returns
returns c =
    map_from_collect _ c.collect.ensures.ran
    (YieldsList-from_take_while _ (λ (line : List ℕ). not (is_end line))
    (YieldsList-at c.take_while.ensures.source
    (YieldsList-from_slice_split _ (λ (b : ℕ). b == 10) c.args.mail.now c.split.ensures.rest c.split.ensures.done c.split.ensures.closure (λ x b q k. search (rules, tests))))
    c.take_while.ensures.closure c.take_while.ensures.done (λ x b q k. search (rules, tests)))
