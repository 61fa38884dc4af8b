use Rattle.std.proofs.Common.{arith}
use Rattle.mr_wire.proofs.PartLaws.{few_columns}
use Rattle.mr_wire.proofs.PutLemmas.{column_of_vector}
use Rattle.mr_wire.proofs.lengths.columns_len.Goals as goal

pub column_len-len-requires : goal.column_len-len-requires
column_len-len-requires c = rw c.x-item.is (column_of_vector c.args.columns.now 0 c.loop-x.x-index _ c.loop-x-test.true c.requires)

pub overflow_add-len : goal.overflow_add-len
overflow_add-len c = omega (arith, few_columns c.args.columns.now 0 (omega arith) c.requires)

pub returns-clause-most : goal.returns-clause-most
returns-clause-most c = omega (arith, few_columns c.args.columns.now 0 (omega arith) c.requires)
