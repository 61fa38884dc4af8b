use Rattle.std.proofs.Common.{◌≡◌, ◌∙◌, sym, subst, ap, List}
use Rattle.mr_joins.specs.declared.mark.Mark.{Mark}
use Rattle.mr_joins.specs.Says.{IsBelow, IsDeleted}
use Rattle.mr_joins.specs.Value.{IsValue, says}
use Rattle.mr_joins.specs.Edited.{deleted}
use Rattle.mr_joins.proofs.Values.{value-deleted, deleted-gone, deleted-above}
use Rattle.mr_joins.proofs.value.Value.deleted.Goals as goal

pub value_of-requires : goal.value_of-requires
value_of-requires c =
    let is : c.in_ok-marks.marks.items ≡ deleted c.self.inside.marks.items = c.in_ok-marks.ensures ∙ ap deleted c.deref.ensures.value in
    subst IsValue (sym is) (value-deleted c.self.inside.marks.items c.self.invariant)

pub returns : goal.returns
returns c =
    let is : c.value_of.result ≡ deleted c.args.self.now = c.value_of.ensures ∙ c.in_ok-marks.ensures ∙ ap deleted (c.deref.ensures.value ∙ c.self.view_is) in
    record {
      value = is;
      gone = subst (λ (ms : List Mark). IsDeleted (says ms)) (sym is) (deleted-gone c.args.self.now);
      above = subst (λ (ms : List Mark). IsBelow (says c.args.self.now) (says ms)) (sym is) (deleted-above c.args.self.now);
    }
