use Rattle.std.proofs.Common.{◌∙◌, sym, ap}
use Rattle.std.specs.Prelude.{position}
use Rattle.mr_joins.specs.inner.Value.{is_from}
use Rattle.mr_joins.proofs.Marks.{push_there}
use Rattle.mr_joins.proofs.putting.put_mark.Goals as goal

pub returns-in_ok-push-in-None : goal.returns-in_ok-push-in-None
returns-in_ok-push-in-None c =
    c.in_ok-push-in-None.ensures.items
    ∙ push_there c.args.mark c.args.marks.now.items (ap (position (is_from c.args.mark)) (sym c.deref.ensures.value) ∙ sym c.place_of.ensures ∙ c.in-None.is)
