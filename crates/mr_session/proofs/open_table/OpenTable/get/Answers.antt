use Rattle.std.proofs.Common.{sym, ◌∙◌}
use Rattle.mr_session.proofs.ViewLemmas.{at-by_number}
use Rattle.mr_session.proofs.open_table.OpenTable.get.Goals as goal

pub returns : goal.returns
returns g c = rw (← c.self.view_is) (c.value.ensures ∙ sym (at-by_number c.self.inside.slots.slots c.args.number))
