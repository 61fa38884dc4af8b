use Rattle.std.proofs.Common.{sym, ◌∙◌}
use Rattle.mr_forms.proofs.Names.{deref, is_listed, rest_all, rest_more}
use Rattle.mr_forms.proofs.VersionLemmas.{from_start_at, no_run-after, first_from-after}
use Rattle.mr_forms.proofs.plain_versions.first_from.Goals as goal

pub returns-in_default-next : goal.returns-in_default-next
returns-in_default-next c k above =
    let none = rest_all deref c.range.result c.next.new.self c.next.result c.in_default-next.is c.next.ensures.steps in
    (c.range.ensures.in_range tt).5 none (record { author = c.args.author; counter = k }) (from_start_at c.in-Ok.start c.args.author c.args.from k c.in-Ok.ensures.ok above, tt)

pub returns-then-id : goal.returns-then-id
returns-then-id c =
    let some = rest_more deref c.range.result c.next.new.self c.next.result c.in-Some.next c.in-Some.is c.next.ensures.steps in
    let found = rw some at (c.range.ensures.in_range tt).1 in
    let least = rw some at (c.range.ensures.in_range tt).2 in
    rw c.counter.ensures.is
    (first_from-after (is_listed c.args.versions.now.keys) c.in-Ok.start c.args.author c.args.from c.in-Some.next.now c.in-Ok.ensures.ok found.0.0 (λ q after there. least q (after, tt) there) found.1
    (sym c.author.ensures ∙ sym c.id.ensures.is ∙ c.if-id.true ∙ c.id-2.ensures.is))

pub returns-else-id : goal.returns-else-id
returns-else-id c =
    let some = rest_more deref c.range.result c.next.new.self c.next.result c.in-Some.next c.in-Some.is c.next.ensures.steps in
    let found = rw some at (c.range.ensures.in_range tt).1 in
    let least = rw some at (c.range.ensures.in_range tt).2 in
    no_run-after (is_listed c.args.versions.now.keys) c.in-Ok.start c.args.author c.args.from c.in-Some.next.now c.in-Ok.ensures.ok found.0.0 (λ q after there. least q (after, tt) there)
    (λ same. c.if-id.false (c.id.ensures.is ∙ c.author.ensures ∙ same ∙ sym c.id-2.ensures.is))
