use Rattle.std.proofs.Common.{rules, ap, not, filter, Bool, ◌∙◌}
use Rattle.mr_store.proofs.Names.{GapParts, Rev, filter_same, holds}
use Rattle.mr_store.proofs.gap_vector.GapVector.retain_others.Goals as goal

pub returns-clause-items : goal.returns-clause-items
returns-clause-items c =
    let stays : Rev → Bool = λ (r : Rev). not (holds c.args.left.now r.version) in
    let behind = c.let_front_go.ensures.items ∙ ap (λ (v : GapParts). v.items) c.self.view_is in
    filter_same _ stays _ (λ x b f' k. search rules) _ _ c.retain.ensures.filtered ∙ ap (filter stays) behind
