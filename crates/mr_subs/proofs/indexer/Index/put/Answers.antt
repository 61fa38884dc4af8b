use Rattle.std.proofs.Common.{◌∙◌, sym, ap, subst, cond, Some, IsTrue}
use Rattle.mr_subs.proofs.Names.{card_at, has_label, name_eq}
use Rattle.mr_subs.proofs.IndexLemmas.{AreShelved-put, AreShelved-changed}
use Rattle.mr_subs.proofs.indexer.Index.put.Goals as goal

pub invariant_of-self-in_default : goal.invariant_of-self-in_default
invariant_of-self-in_default c =
    AreShelved-put c.self.inside.cards.entries c.insert.new.self.entries c.self.inside.shelves.entries c.shelve_all.new.shelves.entries c.args.version c.in_ok-copy.field-0
    c.in_ok-older.ensures.updates.0 c.self.invariant
    (λ q h. c.in_ok-shelve_all.ensures.ok q (subst (λ ls. IsTrue (has_label ls q)) (ap (λ k. k.labels) c.in_ok-copy.ensures ∙ sym c.labels.ensures.value) h))
    c.shelve_all.ensures.kept

pub returns-in-Some-clause-ok : goal.returns-in-Some-clause-ok
returns-in-Some-clause-ok c v = rw (← c.self.view_is) (c.in_ok-older.ensures.updates.0 v ∙ ap (λ k. cond (name_eq c.args.version v) (Some k) (card_at c.self.inside.cards.entries v)) c.in_ok-copy.ensures)

pub returns-in_default-clause-ok : goal.returns-in_default-clause-ok
returns-in_default-clause-ok c v = rw (← c.self.view_is) (c.in_ok-older.ensures.updates.0 v ∙ ap (λ k. cond (name_eq c.args.version v) (Some k) (card_at c.self.inside.cards.entries v)) c.in_ok-copy.ensures)

pub invariant_of-self-in-Some : goal.invariant_of-self-in-Some
invariant_of-self-in-Some c =
    AreShelved-changed c.self.inside.cards.entries c.insert.new.self.entries c.self.inside.shelves.entries c.unshelve_others.new.shelves.entries c.args.version c.in_ok-copy.field-0
    c.in_ok-older.ensures.updates.0 c.self.invariant
    (λ q h. let labelled-so = subst (λ ls. IsTrue (has_label ls q)) (ap (λ k. k.labels) c.in_ok-copy.ensures ∙ sym c.labels.ensures.value) h in
    c.unshelve_others.ensures.labels q (subst (λ ls. IsTrue (has_label ls q)) (ap (λ k. k.labels) c.in_ok-copy.ensures ∙ sym c.labels-in-Some-2.ensures.value) h) c.args.version (c.in_ok-shelve_all.ensures.ok q labelled-so))
    (λ v other q p. c.unshelve_others.ensures.versions v other q (c.shelve_all.ensures.kept q v p))
