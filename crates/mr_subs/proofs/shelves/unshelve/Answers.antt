use Rattle.std.proofs.Common.{◌∙◌, refl, sym, ap, subst, cond, false, IsSome}
use Rattle.mr_subs.proofs.Names.{name_eq, on_shelf, set_has}
use Rattle.mr_subs.proofs.ShelfLemmas.{on_shelf-written, on_shelf-none}
use Rattle.mr_subs.proofs.shelves.unshelve.Goals as goal

pub returns-in-Some : goal.returns-in-Some
returns-in-Some c =
    on_shelf-written c.args.shelves.now.entries (c.get_mut.follows.lender c.remove.new.self).entries c.args.label.now c.args.version false c.remove.new.self
    ((c.get_mut.follows.holds c.remove.new.self).3 (subst IsSome c.in-Some.ensures.value refl)).0
    (λ v. c.remove.ensures.updates.0 v ∙ ap (λ s. cond (name_eq c.args.version v) false (set_has s v)) c.in-Some.ensures.value)

pub returns-in_default : goal.returns-in_default
returns-in_default c q v =
    ap (λ m. on_shelf m.entries q v) c.get_mut.follows.holds-at-none
    ∙ on_shelf-none c.args.shelves.now.entries c.args.label.now c.args.version (sym c.in_default.ensures.value) q v
