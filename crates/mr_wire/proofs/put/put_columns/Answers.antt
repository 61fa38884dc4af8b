use Rattle.mr_wire.specs.Spelling.{column_bytes}
use Rattle.mr_wire.proofs.PutLemmas.{column_of_vector, run_more}
use Rattle.mr_wire.proofs.put.put_columns.Goals as goal

pub put_column-requires : goal.put_column-requires
put_column-requires c = rw c.x-item.is (column_of_vector c.args.columns.now 0 c.loop-x.x-index _ c.loop-x-test.true c.requires)

pub loop-x-preserved : goal.loop-x-preserved
loop-x-preserved c = run_more column_bytes c.args.columns.now c.loop-x.x-index c.x-item.result c.args.out.now.items _ _ c.loop-x.invariant c.loop-x-test.true c.x-item.is c.in_ok-put_column.ensures
