use Rattle.std.proofs.Common.{◌∙◌, ◌+◌, ℕ, Bool, Bor, List, Option, take, drop, ap, arith, refl, rules, subst, sym}
use Rattle.mr_node.proofs.Names.{SaysCut, SaysInPart, Sender, Stop, Turn, TurnRan, holds_on_err, part_behind, take_all, wire_of}
use Rattle.mr_node.proofs.Linking.{SaysTurns, turns_none, turns_more, turns_stop, turns_through}
use Rattle.mr_node.proofs.Talking.{some_left}
use Rattle.mr_threads.proofs.Serving.{take-more, take-split}
use Rattle.mr_node.proofs.Letting.{let_none, let_same, let_all}
use Rattle.mr_node.proofs.link_voice.take_turns.Goals as goal

pub loop-turn-init : goal.loop-turn-init
loop-turn-init g c = record {
  said = turns_none c.args.talk.now (wire_of g.L.Link.tells c.args.wire.now) c.args.guard.now.posted c.requires.posted c.requires.unread;
  let_pass = let_none (g.G.Gate.has_let c.args.guard.now.gate.now c.args.guard.now.link) c.args.guard.now.posted c.requires.posted;
  gate = refl;
  link = refl;
  lanes = record { post = refl; sender = refl; tap = refl };
}

pub take_turn-requires-clause-open : goal.take_turn-requires-clause-open
take_turn-requires-clause-open g c = ap (λ p. p.finished) c.loop-turn.invariant.said.says.post ∙ c.requires.open

pub take_turn-requires-clause-count : goal.take_turn-requires-clause-count
take_turn-requires-clause-count g c = let same = c.loop-turn.invariant.said.passes.downs in let low = c.requires.count in omega (arith, same, low)

pub take_turn-requires-clause-unread : goal.take_turn-requires-clause-unread
take_turn-requires-clause-unread g c = some_left _ (wire_of g.L.Link.tells c.loop-turn.wire) _ _ c.loop-turn.invariant.said.passes

pub loop-turn-preserved : goal.loop-turn-preserved
loop-turn-preserved g c =
    let tells = g.L.Link.tells in
    let closes = g.G.Gate.closes c.loop-turn.guard.gate.now c.loop-turn.guard.link in
    let e = c.in_ok-take_turn.ensures in
    let old = wire_of tells c.args.wire.now in
    let mid = wire_of tells c.loop-turn.wire in
    let new = wire_of tells c.take_turn.new.wire in
    record {
      said = subst (λ (ts : List Turn). SaysTurns ts c.args.talk.now old c.take_turn.new.talk new c.take_turn.new.guard.posted) (sym (take-more c.args.turns.now c.loop-turn.turn-index c.turn-item.result c.loop-turn-test.true c.turn-item.is))
          (turns_more c.args.talk.now c.loop-turn.talk c.take_turn.new.talk old mid new c.loop-turn.guard.posted c.take_turn.new.guard.posted (take c.loop-turn.turn-index c.args.turns.now) c.turn-item.result c.loop-turn.invariant.said
          (subst (λ (o : Option Stop). TurnRan closes c.turn-item.result o c.loop-turn.talk mid c.loop-turn.guard.posted c.take_turn.new.talk new c.take_turn.new.guard.posted) c.in-None.is e.so));
      let_pass = let_same g.G.Gate.has_let _ _ _ _ _ c.loop-turn.invariant.gate c.loop-turn.invariant.link
          (e.let_pass (let_same g.G.Gate.has_let _ _ _ _ _ (sym c.loop-turn.invariant.gate) (sym c.loop-turn.invariant.link) c.loop-turn.invariant.let_pass));
      gate = e.gate ∙ c.loop-turn.invariant.gate;
      link = e.link ∙ c.loop-turn.invariant.link;
      lanes = search rules;
    }

pub returns-in-Some-clause-so : goal.returns-in-Some-clause-so
returns-in-Some-clause-so g c =
    let tells = g.L.Link.tells in
    let closes = g.G.Gate.closes c.loop-turn.guard.gate.now c.loop-turn.guard.link in
    let same = ap (λ (b : Bor g.row.G.Denot). g.G.Gate.closes b.now c.loop-turn.guard.link) c.loop-turn.invariant.gate ∙ ap (λ (s : Sender). g.G.Gate.closes c.args.guard.now.gate.now s) c.loop-turn.invariant.link in
    let old = wire_of tells c.args.wire.now in
    let mid = wire_of tells c.loop-turn.wire in
    let new = wire_of tells c.take_turn.new.wire in
    let all = c.args.turns.now in
    let n = c.loop-turn.turn-index in
    let passed = let_same g.G.Gate.has_let _ _ _ _ _ c.loop-turn.invariant.gate c.loop-turn.invariant.link
    (c.in_ok-take_turn.ensures.let_pass (let_same g.G.Gate.has_let _ _ _ _ _ (sym c.loop-turn.invariant.gate) (sym c.loop-turn.invariant.link) c.loop-turn.invariant.let_pass)) in
    let_all (g.G.Gate.has_let c.args.guard.now.gate.now c.args.guard.now.link) (g.G.Gate.closes c.args.guard.now.gate.now c.args.guard.now.link) all old new c.args.talk.now c.take_turn.new.talk c.take_turn.new.guard.posted passed
    (turns_stop c.args.talk.now c.loop-turn.talk c.take_turn.new.talk old mid new c.loop-turn.guard.posted c.take_turn.new.guard.posted (g.G.Gate.closes c.args.guard.now.gate.now c.args.guard.now.link) all (take n all) (drop (n + 1) all) c.turn-item.result c.in-Some.stop
    (take-split all n c.turn-item.result c.loop-turn-test.true c.turn-item.is) c.loop-turn.invariant.said
    (subst (λ (z : ℕ → Bool). SaysCut z c.turn-item.result c.in-Some.stop c.loop-turn.talk mid c.loop-turn.guard.posted c.take_turn.new.talk new c.take_turn.new.guard.posted) same
    (subst (λ (o : Option Stop). TurnRan closes c.turn-item.result o c.loop-turn.talk mid c.loop-turn.guard.posted c.take_turn.new.talk new c.take_turn.new.guard.posted) c.in-Some.is c.in_ok-take_turn.ensures.so)))

pub returns-clause-so : goal.returns-clause-so
returns-clause-so g c =
    let tells = g.L.Link.tells in
    let_all (g.G.Gate.has_let c.args.guard.now.gate.now c.args.guard.now.link) (g.G.Gate.closes c.args.guard.now.gate.now c.args.guard.now.link) c.args.turns.now (wire_of tells c.args.wire.now) (wire_of tells c.loop-turn.wire) c.args.talk.now c.loop-turn.talk c.loop-turn.guard.posted c.loop-turn.invariant.let_pass
    (turns_through c.args.talk.now c.loop-turn.talk (wire_of tells c.args.wire.now) (wire_of tells c.loop-turn.wire) c.loop-turn.guard.posted (g.G.Gate.closes c.args.guard.now.gate.now c.args.guard.now.link) c.args.turns.now (take c.loop-turn.turn-index c.args.turns.now)
    (take_all c.loop-turn.turn-index c.args.turns.now c.loop-turn-test.false) c.loop-turn.invariant.said)

pub returns-in_err-take_turn-clause-in_turn : goal.returns-in_err-take_turn-clause-in_turn
returns-in_err-take_turn-clause-in_turn g c =
    let h = c.loop-turn.invariant.said in
    holds_on_err c.from_residual.result (SaysInPart c.args.talk.now c.take_turn.new.talk) (part_behind c.args.talk.now c.loop-turn.talk c.take_turn.new.talk h.said h.says c.in_err-take_turn.ensures.in_turn)
