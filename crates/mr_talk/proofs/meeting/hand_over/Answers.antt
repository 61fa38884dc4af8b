-- Each message is handed over by the call of its kind.
use Rattle.std.proofs.Common.{refl, sym, ◌∙◌}
use Rattle.mr_talk.specs.Host.{KeepsFiles}
use Rattle.mr_talk.specs.declared.kind.Kind.TheVariants as kind
use Rattle.mr_talk.proofs.HostLaws.{handed, handed_file, handed_records, refused_at}
use Rattle.mr_talk.proofs.meeting.hand_over.Goals as goal

pub returns-in_err-keep_files-in-Records : goal.returns-in_err-keep_files-in-Records
returns-in_err-keep_files-in-Records g c =
    refused_at g.H.Host.steps _ c.args.host.now c.keep_files.new.self (λ x. KeepsFiles x) c.from_residual.result c.in_err-keep_files-in-Records.field-0.0 c.from_residual.ensures.1 c.in_err-keep_files-in-Records.ensures.step refl

pub returns-in-Ask : goal.returns-in-Ask
returns-in-Ask g c = handed g.H.Host.steps c.args.host.now c.take_ask.new.self c.args.message.now kind.Ask c.bytes-bytes.result.now c.take_ask.result (sym c.kind.ensures ∙ c.in-Ask.is) c.bytes-bytes.ensures.is c.take_ask.ensures.step (λ acts e. e)

pub returns-in-Whole : goal.returns-in-Whole
returns-in-Whole g c = handed_file g.H.Host.steps c.args.host.now c.take_file.new.self c.args.message.now c.take_file.result (rw (sym c.kind.ensures) c.in-Whole.is) c.take_file.ensures.step

pub returns-in-Missing : goal.returns-in-Missing
returns-in-Missing g c = handed g.H.Host.steps c.args.host.now c.take_missing.new.self c.args.message.now kind.Missing c.bytes-bytes.result.now c.take_missing.result (sym c.kind.ensures ∙ c.in-Missing.is) c.bytes-bytes.ensures.is c.take_missing.ensures.step (λ acts e. e)

pub returns-in_ok-keep_files-in-Records : goal.returns-in_ok-keep_files-in-Records
returns-in_ok-keep_files-in-Records g c =
    handed_records g.H.Host.steps c.args.host.now c.keep_files.new.self c.take_records.new.self c.args.message.now c.bytes-bytes.result.now c.take_records.result (sym c.kind.ensures ∙ c.in-Records.is) c.bytes-bytes.ensures.is c.in_ok-keep_files-in-Records.ensures.step c.take_records.ensures.step

pub returns-in-Wants : goal.returns-in-Wants
returns-in-Wants g c = handed g.H.Host.steps c.args.host.now c.take_wants.new.self c.args.message.now kind.Wants c.bytes-bytes.result.now c.take_wants.result (sym c.kind.ensures ∙ c.in-Wants.is) c.bytes-bytes.ensures.is c.take_wants.ensures.step (λ acts e. e)

pub returns-in-PushOuts : goal.returns-in-PushOuts
returns-in-PushOuts g c = handed g.H.Host.steps c.args.host.now c.take_push_outs.new.self c.args.message.now kind.PushOuts c.bytes-bytes.result.now c.take_push_outs.result (sym c.kind.ensures ∙ c.in-PushOuts.is) c.bytes-bytes.ensures.is c.take_push_outs.ensures.step (λ acts e. e)

pub returns-in-Receipts : goal.returns-in-Receipts
returns-in-Receipts g c = handed g.H.Host.steps c.args.host.now c.take_receipts.new.self c.args.message.now kind.Receipts c.bytes-bytes.result.now c.take_receipts.result (sym c.kind.ensures ∙ c.in-Receipts.is) c.bytes-bytes.ensures.is c.take_receipts.ensures.step (λ acts e. e)

pub returns-in-Done : goal.returns-in-Done
returns-in-Done g c = handed g.H.Host.steps c.args.host.now c.take_done.new.self c.args.message.now kind.Done c.bytes-bytes.result.now c.take_done.result (sym c.kind.ensures ∙ c.in-Done.is) c.bytes-bytes.ensures.is c.take_done.ensures.step (λ acts e. e)
