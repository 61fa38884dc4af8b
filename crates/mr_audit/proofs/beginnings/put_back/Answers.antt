use Rattle.std.specs.Vec.Iter.{into_iter_items}
use Rattle.mr_audit.proofs.BeginningLemmas.{back_more}
use Rattle.mr_audit.proofs.beginnings.put_back.Goals as goal

pub loop-end-preserved : goal.loop-end-preserved
loop-end-preserved g c =
    rw c.in_ok-push.ensures.items
    (back_more g.K.Knowledge.form c.args.replica c.args.events c.args.ends.items c.loop-end.yielded (into_iter_items c.loop-end.end-iterator) (into_iter_items c.next.new.self) c.loop-end.starts.items c.in-Some.end c.in_ok-put_one_back.field-0 c.loop-end.invariant c.in-Some.ensures.steps.0 c.in_ok-put_one_back.ensures)
