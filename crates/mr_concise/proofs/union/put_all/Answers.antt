use Rattle.mr_concise.proofs.Names.{into_iter_items, vec_capacity, vec_len}
use Rattle.mr_concise.proofs.UnionLemmas.{PutSoFar-more}
use Rattle.mr_concise.proofs.union.put_all.Goals as goal

pub loop-x-preserved : goal.loop-x-preserved
loop-x-preserved c = PutSoFar-more c.args.changed.items c.args.columns.now.items c.loop-x.yielded (into_iter_items c.loop-x.x-iterator) (into_iter_items c.next.new.self) c.loop-x.columns.items c.put_in_room.new.columns.items c.in-Some.x (vec_len c.loop-x.columns) (vec_capacity c.loop-x.columns) (vec_len c.put_in_room.new.columns) (vec_capacity c.put_in_room.new.columns) c.requires.columns c.loop-x.invariant c.in-Some.ensures.steps.0 c.put_in_room.ensures.placed c.put_in_room.ensures.len c.put_in_room.ensures.capacity
