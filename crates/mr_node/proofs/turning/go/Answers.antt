use Rattle.std.proofs.Common.{◌∙◌, ℕ, Bool, Bor, ap, arith, refl, rules, subst, sym}
use Rattle.mr_node.proofs.Names.{SaysInPart, SaysPart, Sender, holds_on_err, part_behind, wire_of}
use Rattle.mr_node.specs.inner.Step.{Steps}
use Rattle.mr_node.specs.declared.turning.Step.{Step}
use Rattle.mr_node.proofs.Letting.{let_same}
use Rattle.mr_node.proofs.Talking.{some_left}
use Rattle.mr_node.proofs.Stepping.{so_far_none, so_far_more, so_far_done, so_far_stop}
use Rattle.mr_node.proofs.turning.go.Goals as goal

pub loop-init : goal.loop-init
loop-init g c = record {
  so_far = so_far_none c.args.turn.now c.args.talk.now (wire_of g.L.Link.tells c.args.wire.now) c.args.guard.now.posted c.args.progress.now c.requires.new c.requires.unread;
  let_pass = λ h. h;
  gate = refl;
  link = refl;
  lanes = record { post = refl; sender = refl; tap = refl };
}

pub say_next-requires-clause-open : goal.say_next-requires-clause-open
say_next-requires-clause-open g c = ap (λ p. p.finished) c.loop.invariant.so_far.says.post ∙ c.requires.open

pub say_next-requires-clause-count : goal.say_next-requires-clause-count
say_next-requires-clause-count g c = let same = c.loop.invariant.so_far.passes.downs in let low = c.requires.count in omega (arith, same, low)

pub say_next-requires-clause-unread : goal.say_next-requires-clause-unread
say_next-requires-clause-unread g c = some_left _ (wire_of g.L.Link.tells c.loop.wire) _ _ c.loop.invariant.so_far.passes

pub loop-preserved : goal.loop-preserved
loop-preserved g c =
    let tells = g.L.Link.tells in
    let closes = g.G.Gate.closes c.loop.guard.gate.now c.loop.guard.link in
    let h = c.loop.invariant.so_far in
    let e = c.in_ok-say_next.ensures in
    record {
      so_far = so_far_more closes c.args.turn.now c.args.talk.now c.loop.talk c.say_next.new.talk (wire_of tells c.args.wire.now) (wire_of tells c.loop.wire) (wire_of tells c.say_next.new.wire) c.args.guard.now.posted c.loop.guard.posted c.say_next.new.guard.posted c.loop.progress c.say_next.new.progress h
          (subst (λ (s : Step). Steps closes c.args.turn.now h.said c.loop.talk (wire_of tells c.loop.wire) c.loop.guard.posted s c.say_next.new.talk (wire_of tells c.say_next.new.wire) c.say_next.new.guard.posted c.say_next.new.progress) c.in-More.is (e.so h.said h.at));
      let_pass = λ before. let_same g.G.Gate.has_let _ _ _ _ _ c.loop.invariant.gate c.loop.invariant.link
          (e.let_pass (let_same g.G.Gate.has_let _ _ _ _ _ (sym c.loop.invariant.gate) (sym c.loop.invariant.link) (c.loop.invariant.let_pass before)));
      gate = e.gate ∙ c.loop.invariant.gate;
      link = e.link ∙ c.loop.invariant.link;
      lanes = search rules;
    }

pub returns-in-Done-clause-so : goal.returns-in-Done-clause-so
returns-in-Done-clause-so g c =
    let tells = g.L.Link.tells in
    let closes = g.G.Gate.closes c.loop.guard.gate.now c.loop.guard.link in
    let h = c.loop.invariant.so_far in
    so_far_done closes c.args.turn.now c.args.talk.now c.loop.talk c.say_next.new.talk (wire_of tells c.args.wire.now) (wire_of tells c.loop.wire) (wire_of tells c.say_next.new.wire) c.args.guard.now.posted c.loop.guard.posted c.say_next.new.guard.posted c.loop.progress c.say_next.new.progress h
    (subst (λ (s : Step). Steps closes c.args.turn.now h.said c.loop.talk (wire_of tells c.loop.wire) c.loop.guard.posted s c.say_next.new.talk (wire_of tells c.say_next.new.wire) c.say_next.new.guard.posted c.say_next.new.progress) c.in-Done.is (c.in_ok-say_next.ensures.so h.said h.at))

pub returns-in-Stop-clause-so : goal.returns-in-Stop-clause-so
returns-in-Stop-clause-so g c =
    let tells = g.L.Link.tells in
    let closes = g.G.Gate.closes c.loop.guard.gate.now c.loop.guard.link in
    let same = ap (λ (b : Bor g.row.G.Denot). g.G.Gate.closes b.now c.loop.guard.link) c.loop.invariant.gate ∙ ap (λ (s : Sender). g.G.Gate.closes c.args.guard.now.gate.now s) c.loop.invariant.link in
    let h = c.loop.invariant.so_far in
    subst (λ (z : ℕ → Bool). SaysPart z c.args.turn.now c.in-Stop.stop c.args.talk.now (wire_of tells c.args.wire.now) c.args.guard.now.posted c.say_next.new.talk (wire_of tells c.say_next.new.wire) c.say_next.new.guard.posted c.say_next.new.progress) same
    (so_far_stop closes c.args.turn.now c.args.talk.now c.loop.talk c.say_next.new.talk (wire_of tells c.args.wire.now) (wire_of tells c.loop.wire) (wire_of tells c.say_next.new.wire) c.args.guard.now.posted c.loop.guard.posted c.say_next.new.guard.posted c.loop.progress c.say_next.new.progress c.in-Stop.stop h
    (subst (λ (s : Step). Steps closes c.args.turn.now h.said c.loop.talk (wire_of tells c.loop.wire) c.loop.guard.posted s c.say_next.new.talk (wire_of tells c.say_next.new.wire) c.say_next.new.guard.posted c.say_next.new.progress) c.in-Stop.is (c.in_ok-say_next.ensures.so h.said h.at)))

pub returns-in-Done-clause-let_pass : goal.returns-in-Done-clause-let_pass
returns-in-Done-clause-let_pass g c = λ before. let_same g.G.Gate.has_let _ _ _ _ _ c.loop.invariant.gate c.loop.invariant.link
    (c.in_ok-say_next.ensures.let_pass (let_same g.G.Gate.has_let _ _ _ _ _ (sym c.loop.invariant.gate) (sym c.loop.invariant.link) (c.loop.invariant.let_pass before)))

pub returns-in-Stop-clause-let_pass : goal.returns-in-Stop-clause-let_pass
returns-in-Stop-clause-let_pass g c = λ before. let_same g.G.Gate.has_let _ _ _ _ _ c.loop.invariant.gate c.loop.invariant.link
    (c.in_ok-say_next.ensures.let_pass (let_same g.G.Gate.has_let _ _ _ _ _ (sym c.loop.invariant.gate) (sym c.loop.invariant.link) (c.loop.invariant.let_pass before)))

pub returns-in_err-say_next-clause-in_turn : goal.returns-in_err-say_next-clause-in_turn
returns-in_err-say_next-clause-in_turn g c =
    let h = c.loop.invariant.so_far in
    holds_on_err c.from_residual.result (SaysInPart c.args.talk.now c.say_next.new.talk) (part_behind c.args.talk.now c.loop.talk c.say_next.new.talk h.said h.says c.in_err-say_next.ensures.in_turn)
