use Rattle.std.proofs.Common.{◌≡◌, ◌∙◌, ◌&&◌, ◌||◌, ap, sym, take, take_all, refl}
use Rattle.mr_forms.proofs.Names.{has_pair, is_listed, list_any, name_eq, pair}
use Rattle.mr_forms.proofs.ListLemmas.{list_any-here}
use Rattle.mr_forms.proofs.PairLemmas.{joined_pairs, one_more_item}
use Rattle.mr_forms.proofs.plain_knowledge.PlainKnowledge.learn_versions.Goals as goal

pub returns-clause-ok : goal.returns-clause-ok
returns-clause-ok c i v =
    let whole = take_all c.loop-item.item-index c.args.items.now c.loop-item-test.false in
    let known = c.self.inside.pairs.keys in
    let listed : (has_pair c.loop-item.missing.items (pair i v) || has_pair known (pair i v)) ≡ ((list_any (λ item. name_eq item i) c.args.items.now && is_listed c.args.versions.now v) || has_pair known (pair i v)) = rw whole at (c.loop-item.invariant i v) in
    rw (← c.self.view_is) (joined_pairs (is_listed c.self.inside.for_all v) (list_any (λ item. name_eq item i) c.args.items.now) (is_listed c.args.versions.now v) (is_listed c.args.versions.now v)
    _ (has_pair c.loop-item.missing.items (pair i v)) (has_pair known (pair i v))
    (c.in_ok-add_all.ensures.ok (pair i v) ∙ ap (λ xs. has_pair xs (pair i v) || has_pair known (pair i v)) c.deref.ensures.value) listed refl)

pub loop-item-init : goal.loop-item-init
loop-item-init c i v = ap (λ xs. has_pair xs (pair i v) || has_pair c.self.inside.pairs.keys (pair i v)) c.new-missing.ensures.items

pub loop-item-preserved : goal.loop-item-preserved
loop-item-preserved c i v =
    let here = name_eq c.item-item.result i in
    let before = list_any (λ item. name_eq item i) (take c.loop-item.item-index c.args.items.now) in
    let listed = is_listed c.args.versions.now v in
    let known = has_pair c.self.inside.pairs.keys (pair i v) in
    c.in_ok-push_all_missing.ensures.ok i v
    ∙ ap (λ b. (here && listed) || b) (c.loop-item.invariant i v)
    ∙ one_more_item here before listed known
    ∙ ap (λ b. (b && listed) || known) (sym (list_any-here (λ item. name_eq item i) c.args.items.now c.loop-item.item-index c.item-item.result c.loop-item-test.true c.item-item.is))
