use Rattle.std.proofs.Common.{◌∙◌, ◌≤◌, arith}
use Rattle.mr_version.proofs.Decimal.{split-name_text, none_is_not_some, same_payload, result_ok-parts}
use Rattle.mr_version.proofs.version.read_parts.Goals as goal

pub returns-in_err-author-clause-whole : goal.returns-in_err-author-clause-whole
returns-in_err-author-clause-whole c v is spelled = absurd (rw c.in_err-author.was at (split-name_text v c.split_once.result is (rw (← spelled) c.split_once.ensures.cases)))

pub returns-in_err-read_author-clause-whole : goal.returns-in_err-read_author-clause-whole
returns-in_err-read_author-clause-whole c v is spelled =
    let parts = rw c.in_ok-author.was at (split-name_text v c.split_once.result is (rw (← spelled) c.split_once.ensures.cases)) in
    absurd (none_is_not_some c.read_author.result v.author c.in_err-read_author.was (c.read_author.ensures.whole v.author is.author_in parts.0))

pub returns-in_err-read_counter-clause-whole : goal.returns-in_err-read_counter-clause-whole
returns-in_err-read_counter-clause-whole c v is spelled =
    let parts = rw c.in_ok-author.was at (split-name_text v c.split_once.result is (rw (← spelled) c.split_once.ensures.cases)) in
    absurd (none_is_not_some c.read_counter.result v.counter c.in_err-read_counter.was (c.read_counter.ensures.whole v.counter (omega arith) parts.1))

pub returns-clause-whole : goal.returns-clause-whole
returns-clause-whole c v is spelled =
    let parts = rw c.in_ok-author.was at (split-name_text v c.split_once.result is (rw (← spelled) c.split_once.ensures.cases)) in
    let author = same_payload c.read_author.result _ v.author c.in_ok-read_author.was (c.read_author.ensures.whole v.author is.author_in parts.0) in
    let counter = same_payload c.read_counter.result _ v.counter c.in_ok-read_counter.was (c.read_counter.ensures.whole v.counter (omega arith) parts.1) in
    let ranged : (1 ≤ c.in_ok-read_counter.field-0) × (c.in_ok-read_counter.field-0 ≤ 1000000) = rw counter (is.counter_from, is.counter_to) in
    c.ok.ensures.value ∙ result_ok-parts c.try_new.result _ _ v (c.try_new.ensures.exact.1 ranged) c.try_new.ensures.ok author counter
