use Rattle.std.proofs.Common.{◌≡◌, ◌≢◌, None}
use Rattle.mr_talk.specs.declared.turn.Turn.TheVariants.{Failed}
use Rattle.mr_talk.specs.Line.{ahead}
use Rattle.mr_talk.proofs.ServedLaws.{Goes}
use Rattle.mr_talk.proofs.talk.run_talk.Given as goal

-- what was said so far and what was asked of the host, that each round says one message, and that a fault is this side's host's where the talk failed
abbrev pub invariant-messages : goal.invariant-messages
invariant-messages g l =
    Goes g.H.Host.steps l.role l.turn (g.W.Write.contents l.initial.line.output) (g.W.Write.contents l.line.output) (ahead l.initial.line.reader (g.R.Read.remaining l.initial.line.input)) (ahead l.line.reader (g.R.Read.remaining l.line.input))
    l.meeting l.initial.host l.host l.counter
    × (l.turn ≡ Failed → l.meeting.broken ≢ None)
