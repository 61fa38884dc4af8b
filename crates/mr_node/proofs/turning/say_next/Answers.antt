use Rattle.std.proofs.Common.{◌+◌, ◌∙◌, ◌∷◌, [], Option, ap, arith, refl, subst}
use Rattle.mr_threads.specs.Exchange.{said}
use Rattle.mr_node.proofs.Names.{ComesOf, LetsMove, Move, Moves, ReadsLetter, SaysInPart, Stop, holds_on_err, posts_none, says_in_part, wire_of}
use Rattle.mr_node.proofs.Letting.{let_more}
use Rattle.mr_node.proofs.Talking.{some_left}
use Rattle.mr_node.proofs.Stepping.{steps_more, steps_unsaid, steps_unread}
use Rattle.mr_node.proofs.turning.say_next.Goals as goal

pub exchange-requires-clause-count : goal.exchange-requires-clause-count
exchange-requires-clause-count g c =
    let read = subst (λ (m : Move). ReadsLetter (wire_of g.L.Link.tells c.args.wire.now) m (wire_of g.L.Link.tells c.next_move.new.wire)) c.in-Say.is c.in_ok-next_move.ensures.reads in
    let same = read.downs in
    let low = c.requires.count in
    omega (arith, same, low)

pub exchange-requires-clause-unread : goal.exchange-requires-clause-unread
exchange-requires-clause-unread g c =
    let read = subst (λ (m : Move). ReadsLetter (wire_of g.L.Link.tells c.args.wire.now) m (wire_of g.L.Link.tells c.next_move.new.wire)) c.in-Say.is c.in_ok-next_move.ensures.reads in
    some_left _ (wire_of g.L.Link.tells c.next_move.new.wire) _ _ read

pub returns-in-Stop-clause-so : goal.returns-in-Stop-clause-so
returns-in-Stop-clause-so g c = λ xs at.
    let old = wire_of g.L.Link.tells c.args.wire.now in
    let new = wire_of g.L.Link.tells c.next_move.new.wire in
    let guard = c.args.guard.now in
    let closes = g.G.Gate.closes guard.gate.now guard.link in
    steps_unread closes c.args.turn.now xs c.args.talk.now old new guard.posted c.args.progress.now c.in-Stop.stop at
    (subst (λ (m : Move). Moves (closes (guard.posted + 1)) c.args.turn.now xs old m new) c.in-Stop.is (c.in_ok-next_move.ensures.moves xs at.progress))

pub returns-in-None-clause-so : goal.returns-in-None-clause-so
returns-in-None-clause-so g c = λ xs at.
    let old = wire_of g.L.Link.tells c.args.wire.now in
    let mid = wire_of g.L.Link.tells c.next_move.new.wire in
    let new = wire_of g.L.Link.tells c.exchange.new.wire in
    let guard = c.args.guard.now in
    let closes = g.G.Gate.closes guard.gate.now guard.link in
    let so = c.in_ok-stop-in-Say.ensures.so in
    steps_more closes c.args.turn.now xs c.args.talk.now c.exchange.new.talk old mid new guard.posted c.count.new.self.posted c.args.progress.now c.exchange.new.progress
    (closes (guard.posted + 1)) c.in-Say.letter so.0 at
    (subst (λ (m : Move). Moves (closes (guard.posted + 1)) c.args.turn.now xs old m mid) c.in-Say.is (c.in_ok-next_move.ensures.moves xs at.progress))
    (c.in_ok-count-in-Say.ensures.posted ∙ ap (λ n. guard.posted + n) c.one_if_receive-receives.ensures)
    so.1 so.2 (subst (λ (s : Option Stop). ComesOf mid so.0 s new) c.in-None.is so.3)

pub returns-in-Some-clause-so : goal.returns-in-Some-clause-so
returns-in-Some-clause-so g c = λ xs at.
    let old = wire_of g.L.Link.tells c.args.wire.now in
    let mid = wire_of g.L.Link.tells c.next_move.new.wire in
    let new = wire_of g.L.Link.tells c.exchange.new.wire in
    let guard = c.args.guard.now in
    let closes = g.G.Gate.closes guard.gate.now guard.link in
    let so = c.in_ok-stop-in-Say.ensures.so in
    steps_unsaid closes c.args.turn.now xs c.args.talk.now c.exchange.new.talk old mid new guard.posted c.count.new.self.posted c.args.progress.now c.exchange.new.progress
    (closes (guard.posted + 1)) c.in-Say.letter so.0 c.in-Some.stop at
    (subst (λ (m : Move). Moves (closes (guard.posted + 1)) c.args.turn.now xs old m mid) c.in-Say.is (c.in_ok-next_move.ensures.moves xs at.progress))
    (c.in_ok-count-in-Say.ensures.posted ∙ ap (λ n. guard.posted + n) c.one_if_receive-receives.ensures)
    so.1 so.2 (subst (λ (s : Option Stop). ComesOf mid so.0 s new) c.in-Some.is so.3)

pub returns-in-None-clause-let_pass : goal.returns-in-None-clause-let_pass
returns-in-None-clause-let_pass g c = λ before.
    let guard = c.args.guard.now in
    let has_let = g.G.Gate.has_let guard.gate.now guard.link in
    let_more has_let guard.posted c.count.new.self.posted c.in-Say.letter before
    (subst (λ (m : Move). LetsMove (has_let (guard.posted + 1)) m) c.in-Say.is c.in_ok-next_move.ensures.let_pass)
    (c.in_ok-count-in-Say.ensures.posted ∙ ap (λ n. guard.posted + n) c.one_if_receive-receives.ensures)

pub returns-in-Some-clause-let_pass : goal.returns-in-Some-clause-let_pass
returns-in-Some-clause-let_pass g c = λ before.
    let guard = c.args.guard.now in
    let has_let = g.G.Gate.has_let guard.gate.now guard.link in
    let_more has_let guard.posted c.count.new.self.posted c.in-Say.letter before
    (subst (λ (m : Move). LetsMove (has_let (guard.posted + 1)) m) c.in-Say.is c.in_ok-next_move.ensures.let_pass)
    (c.in_ok-count-in-Say.ensures.posted ∙ ap (λ n. guard.posted + n) c.one_if_receive-receives.ensures)

pub returns-in_err-next_move-clause-in_turn : goal.returns-in_err-next_move-clause-in_turn
returns-in_err-next_move-clause-in_turn g c =
    holds_on_err c.from_residual.result (SaysInPart c.args.talk.now c.args.talk.now) (posts_none c.args.talk.now c.args.talk.now refl refl)

pub returns-in_err-count-in-Say-clause-in_turn : goal.returns-in_err-count-in-Say-clause-in_turn
returns-in_err-count-in-Say-clause-in_turn g c =
    let so = c.in_ok-stop-in-Say.ensures.so in
    holds_on_err c.from_residual-in_err-count-in-Say.result (SaysInPart c.args.talk.now c.exchange.new.talk) (says_in_part c.args.talk.now c.exchange.new.talk (said c.in-Say.letter so.0 ∷ []) so.1)
