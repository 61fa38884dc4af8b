use Rattle.mr_concise.proofs.Names.{into_iter_items, vec_capacity, vec_len}
use Rattle.mr_concise.proofs.UnionLemmas.{PutSoFar}
use Rattle.mr_concise.proofs.union.put_all.Given as goal

abbrev pub invariant-loop-x : goal.invariant-loop-x
invariant-loop-x l = PutSoFar l.fn.changed.items l.fn.columns.items l.yielded (into_iter_items l.x-iterator) l.columns.items (vec_len l.columns) (vec_capacity l.columns)
