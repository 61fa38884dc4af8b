use Rattle.std.proofs.Common.{ℕ, List, length, drop, ap, ◌∙◌}
use Rattle.mr_maildir.proofs.Names.{Bor, IfOk-weaker, first_group, flat_map, is_folded, without_return}
use Rattle.mr_maildir.proofs.HeaderLemmas.{value_now}
use Rattle.mr_maildir.proofs.header.value.Goals as goal

pub returns : goal.returns
returns c =
    let group : List (Bor (List ℕ)) → List (Bor (List ℕ)) = first_group (λ (l : Bor (List ℕ)). is_folded l.now) in
    let joined : List (Bor (List ℕ)) → List ℕ = flat_map (λ (l : Bor (List ℕ)). without_return l.now) in
    IfOk-weaker c.from_slice.result _ _
    (λ v is. is
    ∙ (c.behind.ensures
    ∙ (ap (drop (length c.args.key.now)) (c.as_slice.ensures.value ∙ (c.in_ok-field.ensures ∙ ap joined (c.first_field.ensures ∙ ap group c.from_field.ensures)))
    ∙ value_now c.args.key.now c.args.lines.now)))
    c.from_slice.ensures.items
