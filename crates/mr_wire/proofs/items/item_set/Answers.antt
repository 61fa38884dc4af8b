use Rattle.std.proofs.Common.{refl}
use Rattle.mr_wire.proofs.ItemLemmas.{stands_all, stands_listed}
use Rattle.mr_wire.proofs.items.item_set.Goals as goal

pub returns-then-tag-eq-ALL_ITEMS : goal.returns-then-tag-eq-ALL_ITEMS
returns-then-tag-eq-ALL_ITEMS c = stands_all c.args.input.now c.u8.new.self c.in_ok-tag.tag _ refl c.in_ok-tag.ensures c.if-tag-eq-ALL_ITEMS.true

pub returns : goal.returns
returns c = stands_listed c.args.input.now c.u8.new.self c.in_ok-tag.tag c.in_ok-tag.ensures c.if-tag-ne-LISTED_ITEMS.false c.listed_set.result c.in_ok-items.items c.in_ok-items.least c.listed.new.input c.in_ok-items.ensures c.listed_set.ensures
