use Rattle.std.proofs.Common.{◌≡◌}
use Rattle.mr_node.proofs.Names.{HasLet, SameLanes, SaysSoFar, wire_of}
use Rattle.mr_node.proofs.turning.go.Given as goal

abbrev pub invariant-loop : goal.invariant-loop
invariant-loop g l = record {
  so_far : SaysSoFar l.fn.turn l.fn.talk (wire_of g.L.Link.tells l.fn.wire) l.fn.guard.posted l.talk (wire_of g.L.Link.tells l.wire) l.guard.posted l.progress;
  let_pass : HasLet (g.G.Gate.has_let l.fn.guard.gate.now l.fn.guard.link) l.fn.guard.posted → HasLet (g.G.Gate.has_let l.fn.guard.gate.now l.fn.guard.link) l.guard.posted;
  gate : l.guard.gate ≡ l.fn.guard.gate;
  link : l.guard.link ≡ l.fn.guard.link;
  lanes : SameLanes l.fn.talk l.talk;
}
