use Rattle.std.proofs.Common.{◌≡◌, ◌++◌, string_bytes, rules, arith, codes}
use Rattle.mr_filter.proofs.TextLemmas.{SpellsMore-since}
use Rattle.mr_filter.proofs.text.push_since.Goals as goal

pub returns-in_ok-push : goal.returns-in_ok-push
returns-in_ok-push c =
    let written : string_bytes c.in_ok-format.field-0 ≡ codes "since:" ++ string_bytes c.in_ok-date.date = search rules in
    SpellsMore-since _ _ _ _ _ (omega arith) c.in_ok-date.ensures.spelled written c.in_ok-push.ensures.items
