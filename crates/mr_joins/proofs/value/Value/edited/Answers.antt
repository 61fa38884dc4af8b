use Rattle.std.proofs.Common.{◌≡◌, ◌∙◌, sym, subst, ap, List}
use Rattle.mr_joins.specs.declared.mark.Mark.{Mark}
use Rattle.mr_joins.specs.Says.{IsBelow, IsDeleted}
use Rattle.mr_joins.specs.Value.{IsValue, says}
use Rattle.mr_joins.specs.Shown.{shown_view}
use Rattle.mr_joins.specs.Edited.{edited}
use Rattle.mr_joins.proofs.Values.{value-edited, edited-says, edited-above, edited-shown, edited-deletes, edited-nothing}
use Rattle.mr_joins.proofs.value.Value.edited.Goals as goal

pub value_of-requires : goal.value_of-requires
value_of-requires c =
    let is : c.in_ok-marks.marks.items ≡ edited c.self.inside.marks.items c.args.item c.args.labels.now c.args.flags =
    c.in_ok-marks.ensures ∙ ap (λ (ms : List Mark). edited ms c.args.item c.args.labels.now c.args.flags) c.deref.ensures.value in
    subst IsValue (sym is) (value-edited c.self.inside.marks.items c.args.item c.args.labels.now c.args.flags c.self.invariant)

pub returns : goal.returns
returns c =
    let is : c.value_of.result ≡ edited c.args.self.now c.args.item c.args.labels.now c.args.flags =
    c.value_of.ensures ∙ c.in_ok-marks.ensures ∙ ap (λ (ms : List Mark). edited ms c.args.item c.args.labels.now c.args.flags) (c.deref.ensures.value ∙ c.self.view_is) in
    let v : IsValue c.args.self.now = subst IsValue c.self.view_is c.self.invariant in
    record {
      value = is;
      says = λ some key. ap (λ (ms : List Mark). says ms key) is ∙ edited-says c.args.self.now c.args.item c.args.labels.now c.args.flags v some key;
      above = subst (λ (ms : List Mark). IsBelow (says c.args.self.now) (says ms)) (sym is) (edited-above c.args.self.now c.args.item c.args.labels.now c.args.flags v);
      shown = λ some order few. ap shown_view is ∙ edited-shown c.args.self.now c.args.item c.args.labels.now c.args.flags v c.bits-bits.ensures.in_range some order few;
      deletes = λ none. subst (λ (ms : List Mark). IsDeleted (says ms)) (sym is) (edited-deletes c.args.self.now c.args.item c.args.labels.now c.args.flags none);
      nothing = λ folders own. is ∙ edited-nothing c.args.self.now c.args.item c.args.labels.now c.args.flags v folders own;
    }
