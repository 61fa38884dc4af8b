use Rattle.std.proofs.Common.{nat_le, sym, ap, ◌∙◌}
use Rattle.mr_session.proofs.ViewLemmas.{length-by_number}
use Rattle.mr_session.proofs.open_table.OpenTable.is_full.Goals as goal

pub returns : goal.returns
returns g c = rw (← c.self.view_is) (ap (nat_le 8) (c.len.ensures ∙ sym (length-by_number c.self.inside.slots)))
