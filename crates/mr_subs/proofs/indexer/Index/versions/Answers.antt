use Rattle.std.proofs.Common.{◌∙◌, ap, sym, subst}
use Rattle.mr_subs.proofs.Names.{IsStrictlySortedBy, card_at, is_listed, labelled, name_cmp, set_has}
use Rattle.std.proofs.lemmas.Result.{IfOk-weaker}
use Rattle.mr_subs.proofs.IndexLemmas.{is_listed-filter, rising-filter, rising-none}
use Rattle.mr_subs.proofs.indexer.Index.versions.Goals as goal

pub returns-in-Some-clause-rising : goal.returns-in-Some-clause-rising
returns-in-Some-clause-rising c =
    IfOk-weaker c.with_label.result _ _ (λ found e. rising-filter (labelled (card_at c.self.inside.cards.entries) c.args.label.now) c.in-Some.shelf.now.keys found.items c.with_label.ensures.rising e) c.with_label.ensures.found

pub returns-in-Some-clause-exact : goal.returns-in-Some-clause-exact
returns-in-Some-clause-exact c =
    rw (← c.self.view_is) (IfOk-weaker c.with_label.result _ _
    (λ found e v. ap (λ l. is_listed l v) e
    ∙ is_listed-filter (labelled (card_at c.self.inside.cards.entries) c.args.label.now) c.in-Some.shelf.now.keys
    (λ u t. ap (λ s. set_has s u) c.in-Some.ensures.value ∙ c.self.invariant c.args.label.now u t) v)
    c.with_label.ensures.found)

pub returns-in-None-clause-rising : goal.returns-in-None-clause-rising
returns-in-None-clause-rising c = subst (IsStrictlySortedBy name_cmp) (sym c.new.ensures.items) rising-none
