use Rattle.mr_talk.proofs.HostLaws.{ended_refused}
use Rattle.mr_talk.proofs.meeting.Meeting.end.Goals as goal

pub returns-in_err-keep-in-None-clause-ended : goal.returns-in_err-keep-in-None-clause-ended
returns-in_err-keep-in-None-clause-ended g c =
    ended_refused g.H.Host.steps c.args.self c.from_residual.result c.in_err-keep-in-None.field-0.0 c.args.host.now c.keep.new.self c.from_residual.ensures.1 c.in_err-keep-in-None.ensures.step
