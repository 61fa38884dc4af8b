use Rattle.std.proofs.Common.{◌≡◌, ◌++◌, List}
use Rattle.mr_threads.proofs.Names.{HearsOut, IsTrue, SameLanes}
use Rattle.mr_threads.proofs.talk.hear_out.Given as goal

abbrev pub invariant-loop : goal.invariant-loop
invariant-loop g l = record {
  heard : IsTrue l.whole → HearsOut l.fn.talk l.talk;
  passed : (rest : List g.row.A.Denot) × (l.talk.tap.passed ≡ l.fn.talk.tap.passed ++ rest);
  post : l.talk.post ≡ l.fn.talk.post;
  lanes : SameLanes l.fn.talk l.talk;
}
