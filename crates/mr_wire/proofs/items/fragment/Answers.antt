use Rattle.mr_wire.proofs.ItemLemmas.{if_items, stands_fragment}
use Rattle.mr_wire.proofs.items.fragment.Goals as goal

pub fragment_of-requires : goal.fragment_of-requires
fragment_of-requires c = if_items c.in_ok-items.ensures

pub returns : goal.returns
returns c = stands_fragment c.args.input.now c.item_set.new.input c.vector.new.input c.fragment_of.result c.in_ok-items.items c.in_ok-vector.vector c.in_ok-items.least c.in_ok-items.ensures c.in_ok-vector.ensures c.fragment_of.ensures
