use Rattle.std.proofs.Common.{◌≡◌, ◌∙◌, ap, sym}
use Rattle.std.specs.List.{list_any}
use Rattle.std.proofs.lemmas.List.Elements.{All-from_recursion, recursion_from_All}
use Rattle.mr_joins.specs.Shown.{shown_view}
use Rattle.mr_decide.specs.declared.held.Head.{Head}
use Rattle.mr_decide.specs.Held.{differs}
use Rattle.mr_decide.proofs.HeldLemmas.{none-differs, none-apart}
use Rattle.mr_decide.proofs.held.is_due.Goals as goal

pub returns-clause-rests : goal.returns-clause-rests
returns-clause-rests c = λ all.
    c.in_ok-is_due.ensures ∙ ap (list_any (differs c.args.shown.now)) c.deref.ensures.value
    ∙ none-differs c.args.item.now.heads.items c.args.shown.now (recursion_from_All (λ (head : Head). shown_view head.value ≡ c.args.shown.now) c.args.item.now.heads.items all)

pub returns-clause-agrees : goal.returns-clause-agrees
returns-clause-agrees c = λ none.
    All-from_recursion (λ (head : Head). shown_view head.value ≡ c.args.shown.now) c.args.item.now.heads.items
    (none-apart c.args.item.now.heads.items c.args.shown.now (sym (c.in_ok-is_due.ensures ∙ ap (list_any (differs c.args.shown.now)) c.deref.ensures.value) ∙ none))
