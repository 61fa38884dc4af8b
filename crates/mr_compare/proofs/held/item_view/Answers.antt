use Rattle.std.proofs.Common.{◌≡◌, map, ap, ◌∙◌}
use Rattle.mr_compare.proofs.Names.{IfOk-weaker, merged_view, option_copied, over, view_at}
use Rattle.mr_compare.proofs.HeldLemmas.{merged_any_order}
use Rattle.mr_compare.proofs.held.item_view.Goals as goal

pub returns-clause-any_order : goal.returns-clause-any_order
returns-clause-any_order c = λ others moved.
    let before = over (option_copied c.args.ancestor) in
    IfOk-weaker c.shown.result (λ view. view ≡ merged_view before c.deref.result.now) (λ view. view ≡ merged_view before (map view_at others))
    (λ view e. e ∙ ap (merged_view before) (c.deref.ensures.value ∙ c.in_ok-views.ensures) ∙ merged_any_order before c.args.heads.now others moved) c.shown.ensures.value
