use Rattle.std.specs.Vec.Iter.{into_iter_items}
use Rattle.mr_concise.proofs.FragmentLemmas.{ConciseSoFar}
use Rattle.mr_concise.proofs.fragments.concise_fragments.Given as goal

abbrev pub invariant-loop-fragment : goal.invariant-loop-fragment
invariant-loop-fragment g l = ConciseSoFar g.V.VersionSet.has l.fn.fragments.items l.yielded (into_iter_items l.fragment-iterator) l.concise.items
