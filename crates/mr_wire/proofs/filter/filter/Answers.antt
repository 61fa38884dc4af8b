use Rattle.std.proofs.Common.{arith}
use Rattle.mr_wire.proofs.FilterLemmas.{if_filter, stands_filter}
use Rattle.mr_wire.proofs.filter.filter.Goals as goal

pub filter_of-requires : goal.filter_of-requires
filter_of-requires c = if_filter c.args.input.now c.u8.new.self c.in_ok-count.count c.in_ok-count.ensures (omega arith) c.in_ok-clauses.clauses c.clauses.new.input c.in_ok-clauses.ensures

pub returns : goal.returns
returns c = stands_filter c.args.input.now c.u8.new.self c.in_ok-count.count c.in_ok-count.ensures (omega arith) c.filter_of.result c.in_ok-clauses.clauses c.clauses.new.input c.in_ok-clauses.ensures c.filter_of.ensures
