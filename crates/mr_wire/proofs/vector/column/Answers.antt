use Rattle.std.proofs.Common.{refl, arith}
use Rattle.mr_wire.proofs.ColumnLemmas.{if_column, stands_column}
use Rattle.mr_wire.proofs.vector.column.Goals as goal

pub column_with-requires : goal.column_with-requires
column_with-requires c =
    if_column c.args.input.now c.author.new.self c.counter.new.self c.u16.new.self c.args.low c.in_ok-author.author c.in_ok-upto.upto c.in_ok-count.count c.in_ok-author.ensures (omega arith) c.in_ok-upto.ensures c.in_ok-count.ensures (omega arith) c.in_ok-holes.holes c.holes.new.input _ c.in_ok-holes.ensures

pub returns : goal.returns
returns c =
    stands_column c.args.input.now c.author.new.self c.counter.new.self c.u16.new.self c.args.low c.in_ok-author.author c.in_ok-upto.upto c.in_ok-count.count c.in_ok-author.ensures (omega arith) c.in_ok-upto.ensures c.in_ok-count.ensures (omega arith)
    c.args.watch _ c.in_ok-holes.hits _ c.column_with.result c.in_ok-holes.holes c.holes.new.input c.in_ok-holes.ensures refl refl c.id-2.ensures.is c.is_at.ensures c.is_at-2.ensures c.column_with.ensures
