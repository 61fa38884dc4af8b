use Rattle.std.proofs.Common.{take}
use Rattle.mr_store.proofs.Names.{NextIn, by_vector, in_any, of_author}
use Rattle.mr_store.proofs.unheld.next_in_some.Given as goal

-- the first that one of the fragments so far has
abbrev pub invariant-loop-fragment : goal.invariant-loop-fragment
invariant-loop-fragment l = NextIn (of_author (in_any by_vector (take l.fragment-index l.learned)) l.author) l.from l.next
