use Rattle.std.proofs.Common.{◌≡◌, ◌++◌, take}
use Rattle.mr_session.proofs.copies.push_pieces.Given as goal

abbrev pub invariant-loop-fragment : goal.invariant-loop-fragment
invariant-loop-fragment l = l.copied.items ≡ l.initial.copied.items ++ take l.fragment-index l.fragments
