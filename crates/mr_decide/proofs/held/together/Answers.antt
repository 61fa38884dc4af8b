use Rattle.std.proofs.Common.{sym, subst, List}
use Rattle.mr_joins.specs.declared.mark.Mark.{Mark}
use Rattle.mr_joins.specs.Says.{AreAmong}
use Rattle.mr_decide.specs.Held.{values_of}
use Rattle.mr_decide.proofs.held.together.Goals as goal

pub returns-clause-set : goal.returns-clause-set
returns-clause-set c = λ others all there back.
    c.in_ok-value.ensures.set (values_of others) all
    (subst (λ (vs : List (List Mark)). AreAmong vs (values_of others)) (sym c.in_ok-values.ensures) there)
    (subst (λ (vs : List (List Mark)). AreAmong (values_of others) vs) (sym c.in_ok-values.ensures) back)
