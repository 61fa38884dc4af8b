use Rattle.std.proofs.Common.{◌≡◌, ◌∙◌, sym, subst, ap, List}
use Rattle.mr_joins.specs.declared.mark.Mark.{Mark}
use Rattle.mr_joins.specs.Value.{IsValue}
use Rattle.mr_joins.specs.Shown.{has}
use Rattle.mr_joins.proofs.ShownLemmas.{has_says, says_has}
use Rattle.mr_joins.proofs.value.Value.has.Goals as goal

pub returns-clause-says : goal.returns-clause-says
returns-clause-says c =
    let is : c.is_had.result ≡ has c.args.self.now c.args.element.now = c.is_had.ensures ∙ ap (λ (ms : List Mark). has ms c.args.element.now) (c.deref.ensures.value ∙ c.self.view_is) in
    let v : IsValue c.args.self.now = subst IsValue c.self.view_is c.self.invariant in
    (λ t. has_says c.args.self.now c.args.element.now v.rising (sym is ∙ t), λ h. is ∙ says_has c.args.self.now h.0 c.args.element.now h.1)
