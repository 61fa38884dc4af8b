use Rattle.std.specs.Vec.Iter.{into_iter_items}
use Rattle.mr_replica.proofs.PieceLemmas.{PiecesSoFar}
use Rattle.mr_replica.proofs.pieces.pieces_of.Given as goal

abbrev pub invariant-loop-fragment : goal.invariant-loop-fragment
invariant-loop-fragment g l = PiecesSoFar g.V.VersionSet.has l.fn.fragments.items l.yielded (into_iter_items l.fragment-iterator) l.pieces.items
