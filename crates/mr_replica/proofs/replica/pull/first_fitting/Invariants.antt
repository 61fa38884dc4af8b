use Rattle.std.proofs.Common.{map, All}
use Rattle.mr_replica.proofs.Names.{AreItems, MAX_ASKED_BYTES, into_iter_items, piece_of}
use Rattle.mr_replica.proofs.PullLemmas.{FitsSoFar}
use Rattle.mr_replica.proofs.replica.pull.first_fitting.Given as goal

-- the pieces so far fit, and a frame carries those that are left
abbrev pub invariant-loop-fragment : goal.invariant-loop-fragment
invariant-loop-fragment l = record {
  far : FitsSoFar MAX_ASKED_BYTES (map piece_of l.fn.fragments.items) l.asked.items (map piece_of (into_iter_items l.fragment-iterator)) l.room;
  carried : All (λ f. AreItems (piece_of f).items) (into_iter_items l.fragment-iterator);
}
