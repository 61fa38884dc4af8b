use Rattle.std.proofs.Common.{◌∙◌, refl, ap, subst, cond, true, Some, IsSome, Result, Ok, Err, OnErr}
use Rattle.mr_subs.proofs.Names.{is_eq, is_listed, name_eq, set_has, shelf, text_cmp}
use Rattle.mr_subs.proofs.ShelfLemmas.{on_shelf-written, on_shelf-same}
use Rattle.mr_subs.proofs.shelves.shelve.Goals as goal

on_err : {T E P : Type 0} (r : Result T E) → P → OnErr r P
on_err (Ok x) p = tt
on_err (Err e) p = p

pub returns-in_err-insert-clause-err : goal.returns-in_err-insert-clause-err
returns-in_err-insert-clause-err c = on_err c.from_residual.result
    (on_shelf-same c.args.shelves.now.entries (c.get_mut.follows.lender c.insert.new.self).entries c.args.label.now c.insert.new.self
    ((c.get_mut.follows.holds c.insert.new.self).3 (subst IsSome c.in-Some.ensures.value refl)).0
    (λ v. ap (λ ks. is_listed ks v) c.in_err-insert.ensures.err ∙ ap (λ s. set_has s v) c.in-Some.ensures.value))

pub returns-in-Some-clause-ok : goal.returns-in-Some-clause-ok
returns-in-Some-clause-ok c =
    on_shelf-written c.args.shelves.now.entries (c.get_mut.follows.lender c.insert.new.self).entries c.args.label.now c.args.version true c.insert.new.self
    ((c.get_mut.follows.holds c.insert.new.self).3 (subst IsSome c.in-Some.ensures.value refl)).0
    (λ v. c.in_ok-insert.ensures.updates.0 v ∙ ap (λ s. cond (name_eq c.args.version v) true (set_has s v)) c.in-Some.ensures.value)

pub returns-clause-ok : goal.returns-clause-ok
returns-clause-ok c =
    on_shelf-written c.args.shelves.now.entries c.insert-3.new.self.entries c.args.label.now c.args.version true c.insert-2.new.self
    (λ q. c.in_ok-insert-3.ensures.updates.0 q
    ∙ ap (λ l. cond (is_eq (text_cmp l q)) (Some c.insert-2.new.self) (shelf c.get_mut.follows.lender-at-none.entries q)) c.in_ok-copy.ensures
    ∙ ap (λ m. cond (is_eq (text_cmp c.args.label.now q)) (Some c.insert-2.new.self) (shelf m.entries q)) c.get_mut.follows.holds-at-none)
    (λ v. c.in_ok-insert-2.ensures.updates.0 v
    ∙ ap (λ ks. cond (name_eq c.args.version v) true (is_listed ks v)) c.new-versions.ensures.empty
    ∙ ap (λ s. cond (name_eq c.args.version v) true (set_has s v)) c.in_default.ensures.value)
