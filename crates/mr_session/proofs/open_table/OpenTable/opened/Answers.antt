use Rattle.mr_session.proofs.ViewLemmas.{table_of}
use Rattle.mr_session.proofs.open_table.OpenTable.opened.Goals as goal

pub returns-clause-kept : goal.returns-clause-kept
returns-clause-kept g c = rw (← c.self.view_is) (table_of c.self.inside.slots c.self.inside.opened c.self.invariant)
