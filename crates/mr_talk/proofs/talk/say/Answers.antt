use Rattle.mr_talk.proofs.HostLaws.{sent_broken, sent_refused}
use Rattle.mr_talk.proofs.talk.say.Goals as goal

pub returns-in_err-keep-clause-kept : goal.returns-in_err-keep-clause-kept
returns-in_err-keep-clause-kept g c =
    sent_refused g.H.Host.steps c.from_residual.result c.in_err-keep.field-0.0 c.args.host.now c.keep.new.self c.from_residual.ensures.1 c.in_err-keep.ensures.step

pub returns-in_err-send-clause-kept : goal.returns-in_err-send-clause-kept
returns-in_err-send-clause-kept g c =
    sent_broken g.H.Host.steps c.from_residual-in_err-send.result c.in_err-send.field-0.0 c.args.host.now c.keep.new.self c.from_residual-in_err-send.ensures.1 c.in_ok-keep.ensures.step

pub returns-in_err-flush-clause-kept : goal.returns-in_err-flush-clause-kept
returns-in_err-flush-clause-kept g c =
    sent_broken g.H.Host.steps c.from_residual-in_err-flush.result c.in_err-flush.field-0.0 c.args.host.now c.keep.new.self c.from_residual-in_err-flush.ensures.1 c.in_ok-keep.ensures.step
