use Rattle.mr_concise.proofs.set.ConciseVectorVersionSet.insert_range.Goals as goal

pub returns-clause-holes : goal.returns-clause-holes
returns-clause-holes c = rw c.self.view_is at c.unite_run.ensures.holes
