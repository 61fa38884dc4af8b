use Rattle.std.proofs.Common.{rules}
use Rattle.mr_talk.proofs.HostLaws.{voiced}
use Rattle.mr_talk.proofs.meeting.Meeting.next_message.Goals as goal

pub returns-in-Ok-clause-voiced : goal.returns-in-Ok-clause-voiced
returns-in-Ok-clause-voiced g c =
    voiced g.H.Host.steps c.args.self.now c.args.turn c.in-Ok.speech c.into_message.result c.args.host.now c.next_speech.new.host (search rules) c.in-Ok.ensures.suits c.in-Ok.ensures.asked c.into_message.ensures.says c.into_message.ensures.fault
