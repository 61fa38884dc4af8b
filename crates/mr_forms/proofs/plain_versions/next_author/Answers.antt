use Rattle.std.proofs.Common.{◌∙◌}
use Rattle.mr_forms.proofs.Names.{deref, is_listed, rest_all, rest_more}
use Rattle.mr_forms.proofs.VersionLemmas.{next_author-first, no_author-none}
use Rattle.mr_forms.proofs.plain_versions.next_author.Goals as goal

pub returns-in_default-next : goal.returns-in_default-next
returns-in_default-next c =
    let none = rest_all deref c.range.result c.next.new.self c.next.result c.in_default-next.is c.next.ensures.steps in
    no_author-none (is_listed c.args.versions.now.keys) c.in-Ok-try_new.start c.args.id (c.in-Ok-try_new.ensures.ok.0 ∙ c.in-Ok.ensures.ok, c.in-Ok-try_new.ensures.ok.1) c.requires (λ q after. (c.range.ensures.in_range tt).5 none q (after, tt))

pub returns : goal.returns
returns c =
    let some = rest_more deref c.range.result c.next.new.self c.next.result c.in-Some.next c.in-Some.is c.next.ensures.steps in
    let found = rw some at (c.range.ensures.in_range tt).1 in
    let least = rw some at (c.range.ensures.in_range tt).2 in
    rw c.author.ensures
    (next_author-first (is_listed c.args.versions.now.keys) c.in-Ok-try_new.start c.args.id c.in-Some.next.now (c.in-Ok-try_new.ensures.ok.0 ∙ c.in-Ok.ensures.ok, c.in-Ok-try_new.ensures.ok.1) c.requires
    (λ q after there. least q (after, tt) there) found.0.0 found.1)
