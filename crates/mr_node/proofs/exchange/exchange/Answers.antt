use Rattle.std.proofs.Common.{◌≡◌, ◌∙◌, ◌∷◌, [], Result, ap, subst}
use Rattle.mr_node.proofs.Names.{ComesOf, IfOk-weaker, Refusal, Reply, SaysInPart, advanced, holds_on_err, says_in_part, wire_of}
use Rattle.mr_threads.specs.Exchange.{said}
use Rattle.mr_node.proofs.exchange.exchange.Goals as goal

pub returns-clause-so : goal.returns-clause-so
returns-clause-so g c =
    let one = c.in_ok-say.ensures.ok in
    let last = c.in-Some.ensures c.args.talk.now.replies.items one.0 one.1.replies in
    let same : c.in-Some.answer.now ≡ one.0 = cc in
    let old = wire_of g.L.Link.tells c.args.wire.now in
    let new = wire_of g.L.Link.tells c.send_answer.new.wire in
    IfOk-weaker c.send_answer.result _ _
    (λ stop k. (
      one.0,
      one.1,
      c.in_ok-advance.ensures ∙ ap (λ (a : Result Reply Refusal). advanced c.args.progress.now a) same,
      subst (λ (a : Result Reply Refusal). ComesOf old a stop new) same k,
    ))
    c.send_answer.ensures

pub returns-in_err-advance-clause-in_turn : goal.returns-in_err-advance-clause-in_turn
returns-in_err-advance-clause-in_turn g c =
    let one = c.in_ok-say.ensures.ok in
    holds_on_err c.from_residual-in_err-advance.result (SaysInPart c.args.talk.now c.say.new.self) (says_in_part c.args.talk.now c.say.new.self (said c.args.letter one.0 ∷ []) one.1)

pub returns-clause-in_turn : goal.returns-clause-in_turn
returns-clause-in_turn g c =
    let one = c.in_ok-say.ensures.ok in
    holds_on_err c.send_answer.result (SaysInPart c.args.talk.now c.say.new.self) (says_in_part c.args.talk.now c.say.new.self (said c.args.letter one.0 ∷ []) one.1)
