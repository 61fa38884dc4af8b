use Rattle.mr_wire.proofs.ColumnLemmas.{if_vector, stands_vector}
use Rattle.mr_wire.proofs.vector.watched_vector.Goals as goal

pub vector_with-requires : goal.vector_with-requires
vector_with-requires c = if_vector c.u16.new.self c.in_ok-count.count c.in_ok-columns.columns c.columns.new.input _ c.in_ok-columns.ensures

pub returns : goal.returns
returns c = stands_vector c.args.input.now c.u16.new.self c.in_ok-count.count c.in_ok-count.ensures c.args.watch c.in_ok-columns.seen c.vector_with.result c.in_ok-columns.columns c.columns.new.input c.in_ok-columns.ensures c.vector_with.ensures
