use Rattle.mr_subs.proofs.indexer.Index.remove.Goals as goal

pub returns-in-Some : goal.returns-in-Some
returns-in-Some c v = rw (← c.self.view_is) (c.remove.ensures.updates.0 v)
