use Rattle.mr_node.proofs.Names.{SaysInPart, holds_on_err, wire_of}
use Rattle.mr_node.proofs.Stepping.{goes_part}
use Rattle.mr_node.proofs.turning.take_turn.Goals as goal

pub returns-in_err-cut-in-Some-clause-in_turn : goal.returns-in_err-cut-in-Some-clause-in_turn
returns-in_err-cut-in-Some-clause-in_turn g c =
    let guard = c.args.guard.now in
    holds_on_err c.from_residual-in_err-cut-in-Some.result (SaysInPart c.args.talk.now c.cut.new.talk)
    (goes_part (g.G.Gate.closes guard.gate.now guard.link) c.args.turn.now c.in_ok-go.field-0 c.args.talk.now c.go.new.talk c.cut.new.talk (wire_of g.L.Link.tells c.args.wire.now) (wire_of g.L.Link.tells c.go.new.wire) guard.posted c.go.new.guard.posted c.go.new.progress c.in_ok-go.ensures.so c.in_err-cut-in-Some.ensures.in_turn)
