use Rattle.std.proofs.Common.{◌≡◌, ◌∙◌, sym, subst, ap, List}
use Rattle.mr_joins.specs.declared.mark.Mark.{Mark}
use Rattle.mr_joins.specs.Value.{IsValue, says, with_mark}
use Rattle.mr_joins.proofs.Marks.{says-with_mark}
use Rattle.mr_joins.proofs.Values.{value-with_mark}
use Rattle.mr_joins.proofs.value.Value.with_mark.Goals as goal

pub value_of-requires : goal.value_of-requires
value_of-requires c = subst IsValue (sym c.in_ok-put_mark.ensures) (value-with_mark c.args.mark c.self.inside.marks.items c.requires c.self.invariant)

pub returns-clause-says : goal.returns-clause-says
returns-clause-says c =
    let is : c.value_of.result ≡ with_mark c.args.mark c.args.self = c.value_of.ensures ∙ c.in_ok-put_mark.ensures ∙ ap (with_mark c.args.mark) c.self.view_is in
    let v : IsValue c.args.self = subst IsValue c.self.view_is c.self.invariant in
    λ key. ap (λ (ms : List Mark). says ms key) is ∙ says-with_mark c.args.mark c.args.self key v.rising
