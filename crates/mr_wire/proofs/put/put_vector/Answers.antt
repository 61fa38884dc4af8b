use Rattle.std.proofs.Common.{arith, ap, length}
use Rattle.mr_wire.proofs.PartLaws.{few_columns}
use Rattle.mr_wire.proofs.put.put_vector.Goals as goal

pub overflow_cast-columns : goal.overflow_cast-columns
overflow_cast-columns c = omega (arith, few_columns c.args.vector.now 0 (omega arith) c.author_columns-columns.ensures.vector, ap length c.author_columns-columns.ensures.is)
