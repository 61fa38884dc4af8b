use Rattle.std.specs.Vec.Iter.{into_iter_items}
use Rattle.mr_audit.proofs.BeginningLemmas.{BackSoFar}
use Rattle.mr_audit.proofs.beginnings.put_back.Given as goal

abbrev pub invariant-loop-end : goal.invariant-loop-end
invariant-loop-end g l = BackSoFar g.K.Knowledge.form l.replica l.events l.fn.ends.items l.yielded (into_iter_items l.end-iterator) l.starts.items
