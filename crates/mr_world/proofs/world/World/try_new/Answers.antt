use Rattle.std.proofs.Common.{[]}
use Rattle.std.proofs.lemmas.List.Elements.{All-nil, All-same}
use Rattle.mr_world.specs.Kept.{world_view}
use Rattle.mr_world.specs.Pool.{IsAskFrame, IsReceiptFrame, IsRecordFrame}
use Rattle.mr_world.proofs.Running.Made.{made_world}
use Rattle.mr_world.proofs.Histories.Promises.{made_keeps}
use Rattle.mr_world.proofs.world.World.try_new.Goals as goal

-- a world as it is made keeps the rules
pub invariant_of-result : goal.invariant_of-result
invariant_of-result g c = (
  record {
    asks = All-same IsAskFrame c.new.result.asks.frames [] c.new.ensures.asks (All-nil IsAskFrame);
    records = All-same IsRecordFrame c.new.result.records.frames [] c.new.ensures.records (All-nil IsRecordFrame);
    receipts = All-same IsReceiptFrame c.new.result.receipts.frames [] c.new.ensures.receipts (All-nil IsReceiptFrame);
  },
  made_keeps g.K.Knowledge.form c.new-nothing.result c.new-nothing.ensures c.args.specs.items (world_view c.in-Ok.members.items c.new.result c.new-2.result.items)
      (made_world g.K.Knowledge.form c.args.specs.items c.in-Ok.members.items c.new.result c.new-2.result.items c.in-Ok.ensures c.new.ensures.asks c.new.ensures.records c.new.ensures.receipts c.new-2.ensures.items),
)

pub returns-clause-made : goal.returns-clause-made
returns-clause-made g c =
    made_world g.K.Knowledge.form c.args.specs.items c.in-Ok.members.items c.new.result c.new-2.result.items c.in-Ok.ensures c.new.ensures.asks c.new.ensures.records c.new.ensures.receipts c.new-2.ensures.items
