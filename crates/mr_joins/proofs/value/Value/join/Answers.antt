use Rattle.std.proofs.Common.{◌≡◌, ◌∙◌, sym, subst, ap, List}
use Rattle.mr_joins.specs.declared.mark.Mark.{Mark}
use Rattle.mr_joins.specs.Value.{IsValue, says, join}
use Rattle.mr_joins.proofs.Values.{value-join, says_both, join-comm, join-assoc, join-itself}
use Rattle.mr_joins.proofs.value.Value.join.Goals as goal

pub value_of-requires : goal.value_of-requires
value_of-requires c =
    subst IsValue (sym c.in_ok-join_marks.ensures) (value-join c.self.inside.marks.items c.other.inside.marks.items c.self.invariant c.other.invariant)

pub returns : goal.returns
returns c =
    let is : c.value_of.result ≡ join c.args.self c.args.other = c.value_of.ensures ∙ c.in_ok-join_marks.ensures ∙ (λ i. join (c.self.view_is i) (c.other.view_is i)) in
    let v : IsValue c.args.self = subst IsValue c.self.view_is c.self.invariant in
    let o : IsValue c.args.other = subst IsValue c.other.view_is c.other.invariant in
    record {
      value = is;
      says = λ key. ap (λ (ms : List Mark). says ms key) is ∙ says_both c.args.self c.args.other v o key;
      values = (v, o);
      commutes = is ∙ join-comm c.args.self c.args.other v o;
      associates = λ third t. ap (λ (ms : List Mark). join ms third) is ∙ join-assoc c.args.self c.args.other third v o t;
      idempotent = λ same. is ∙ ap (join c.args.self) same ∙ join-itself c.args.self v;
    }
