use Rattle.std.proofs.Common.{◌≡◌, take, map}
use Rattle.mr_wire.specs.Values.{piece_of}
use Rattle.mr_session.proofs.copies.copied_fragments.Given as goal

abbrev pub invariant-loop-fragment : goal.invariant-loop-fragment
invariant-loop-fragment l = map piece_of l.copied.items ≡ map piece_of (take l.fragment-index l.fragments)
