use Rattle.std.proofs.Common.{arith}
use Rattle.mr_wire.proofs.FilterLemmas.{few_labels, if_wanted, if_barred, if_few, stands_clause}
use Rattle.mr_wire.proofs.filter.clause.Goals as goal

pub overflow_add-wanted_count : goal.overflow_add-wanted_count
overflow_add-wanted_count c = omega (arith, few_labels c.in_ok-wanted.ensures, few_labels c.in_ok-barred.ensures)

pub clause_of-requires-clause-wanted : goal.clause_of-requires-clause-wanted
clause_of-requires-clause-wanted c = if_wanted c.args.input.now c.labels.new.input c.labels-2.new.input c.flags.new.input c.flags-2.new.input c.u16.new.self c.in_ok-wanted.wanted c.in_ok-barred.barred c.in_ok-wanted.wanted_count c.in_ok-barred.barred_count c.in_ok-on.on c.in_ok-off.off c.in_ok-u16.field-0 c.in_ok-wanted.ensures c.in_ok-barred.ensures c.in_ok-on.ensures c.in_ok-off.ensures c.in_ok-u16.ensures

pub clause_of-requires-clause-barred : goal.clause_of-requires-clause-barred
clause_of-requires-clause-barred c = if_barred c.args.input.now c.labels.new.input c.labels-2.new.input c.flags.new.input c.flags-2.new.input c.u16.new.self c.in_ok-wanted.wanted c.in_ok-barred.barred c.in_ok-wanted.wanted_count c.in_ok-barred.barred_count c.in_ok-on.on c.in_ok-off.off c.in_ok-u16.field-0 c.in_ok-wanted.ensures c.in_ok-barred.ensures c.in_ok-on.ensures c.in_ok-off.ensures c.in_ok-u16.ensures

pub clause_of-requires-clause-few : goal.clause_of-requires-clause-few
clause_of-requires-clause-few c = if_few c.args.input.now c.labels.new.input c.labels-2.new.input c.flags.new.input c.flags-2.new.input c.u16.new.self c.in_ok-wanted.wanted c.in_ok-barred.barred c.in_ok-wanted.wanted_count c.in_ok-barred.barred_count c.in_ok-on.on c.in_ok-off.off c.in_ok-u16.field-0 c.in_ok-wanted.ensures c.in_ok-barred.ensures c.in_ok-on.ensures c.in_ok-off.ensures c.in_ok-u16.ensures (omega arith)

pub returns : goal.returns
returns c = stands_clause c.args.input.now c.labels.new.input c.labels-2.new.input c.flags.new.input c.flags-2.new.input c.u16.new.self c.in_ok-wanted.wanted c.in_ok-barred.barred c.in_ok-wanted.wanted_count c.in_ok-barred.barred_count c.in_ok-on.on c.in_ok-off.off c.in_ok-u16.field-0 c.in_ok-wanted.ensures c.in_ok-barred.ensures c.in_ok-on.ensures c.in_ok-off.ensures c.in_ok-u16.ensures (omega arith) c.clause_of.result (rw c.new-since.ensures at c.clause_of.ensures)
