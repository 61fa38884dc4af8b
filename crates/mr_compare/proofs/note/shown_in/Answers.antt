use Rattle.std.proofs.Common.{arith}
use Rattle.mr_compare.proofs.NoteLaws.{few_items, stands_shown}
use Rattle.mr_compare.proofs.note.shown_in.Goals as goal

pub shown_of-requires : goal.shown_of-requires
shown_of-requires c = few_items c.in_ok-count.count c.u32.new.self c.item_run.new.input c.in_ok-lacking.lacking (omega arith) c.in_ok-lacking.ensures

pub returns : goal.returns
returns c =
    stands_shown c.args.input.now c.u64.new.self c.u32.new.self c.item_run.new.input c.in_ok-entries.entries c.in_ok-count.count c.in_ok-lacking.lacking c.shown_of.result c.in_ok-entries.ensures c.in_ok-count.ensures c.in_ok-lacking.ensures c.shown_of.ensures
