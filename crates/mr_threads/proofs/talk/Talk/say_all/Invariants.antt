use Rattle.std.proofs.Common.{◌≡◌, ◌++◌, List}
use Rattle.mr_threads.proofs.Names.{Said, SameLanes, Says, into_iter_items, letters_said}
use Rattle.mr_threads.proofs.talk.Talk.say_all.Given as goal

abbrev pub invariant-loop-letter : goal.invariant-loop-letter
invariant-loop-letter g l = record {
  ahead : l.yielded ++ into_iter_items l.letter-iterator ≡ l.fn.letters.items;
  said : (xs : List (Said g.row.E.Denot g.row.A.Denot)) × (letters_said xs ≡ l.yielded) × Says l.fn.self xs l.self;
  lanes : SameLanes l.fn.self l.self;
}
