use Rattle.std.proofs.Common.{◌≡◌, ◌∙◌, sym, subst, ap, List}
use Rattle.mr_joins.specs.declared.mark.Mark.{Mark}
use Rattle.mr_joins.specs.Value.{IsValue, says}
use Rattle.mr_joins.specs.Shown.{shown_view}
use Rattle.mr_joins.specs.Edited.{new_mail}
use Rattle.mr_joins.proofs.Values.{value-new_mail, says-new_mail, new_mail-shown}
use Rattle.mr_joins.proofs.value.Value.new_mail.Goals as goal

pub value_of-requires : goal.value_of-requires
value_of-requires c = subst IsValue (sym c.in_ok-marks.ensures) (value-new_mail c.args.item c.args.labels.now c.args.flags)

pub returns : goal.returns
returns c =
    let is : c.value_of.result ≡ new_mail c.args.item c.args.labels.now c.args.flags = c.value_of.ensures ∙ c.in_ok-marks.ensures in
    record {
      value = is;
      says = λ key. ap (λ (ms : List Mark). says ms key) is ∙ says-new_mail c.args.item c.args.labels.now c.args.flags key;
      shown = λ some order few. ap shown_view is ∙ new_mail-shown c.args.item c.args.labels.now c.args.flags c.bits-bits.ensures.in_range some order few;
    }
