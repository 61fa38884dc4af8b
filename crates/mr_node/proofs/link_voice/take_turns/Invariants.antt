use Rattle.std.proofs.Common.{◌≡◌, take}
use Rattle.mr_node.proofs.Names.{HasLet, SameLanes, wire_of}
use Rattle.mr_node.proofs.Linking.{SaysTurns}
use Rattle.mr_node.proofs.link_voice.take_turns.Given as goal

abbrev pub invariant-loop-turn : goal.invariant-loop-turn
invariant-loop-turn g l = record {
  said : SaysTurns (take l.turn-index l.turns) l.fn.talk (wire_of g.L.Link.tells l.fn.wire) l.talk (wire_of g.L.Link.tells l.wire) l.guard.posted;
  let_pass : HasLet (g.G.Gate.has_let l.fn.guard.gate.now l.fn.guard.link) l.guard.posted;
  gate : l.guard.gate ≡ l.fn.guard.gate;
  link : l.guard.link ≡ l.fn.guard.link;
  lanes : SameLanes l.fn.talk l.talk;
}
