use Rattle.mr_concise.proofs.EqualLemmas.{vector_eq-same}
use Rattle.mr_concise.proofs.order.ConciseVectorPartialEq.eq.Goals as goal

pub returns-clause-same : goal.returns-clause-same
returns-clause-same c = rw (c.eq.ensures, c.author_columns.ensures.is, c.author_columns-2.ensures.is) (vector_eq-same c.args.self.now c.args.other.now c.author_columns.ensures.vector c.author_columns-2.ensures.vector)
