use Rattle.mr_sync.proofs.Names.{IsNoRequestOf, fault_of_wire}
use Rattle.mr_sync.proofs.TakeLaws.{ask_or_none, ask_whole, no_frame, passed_on}
use Rattle.mr_sync.proofs.asking.ask_in.Goals as goal

pub returns-in_err-frame-clause-fault : goal.returns-in_err-frame-clause-fault
returns-in_err-frame-clause-fault c =
    let fault = c.in_err-frame.field-0.0 in
    passed_on (IsNoRequestOf c.args.target c.args.bytes.now) (fault_of_wire fault) c.from_residual.result c.from_residual.ensures.1 (no_frame c.args.target c.args.bytes.now fault c.in_err-frame.ensures.exact)

pub returns-clause-exact : goal.returns-clause-exact
returns-clause-exact c = ask_whole c.args.target c.args.bytes.now c.in_ok-frame.frame c.in_ok-frame.used c.ask_of.result c.in_ok-frame.ensures.exact c.if-used-bytes.false c.ask_of.ensures

pub returns-clause-fault : goal.returns-clause-fault
returns-clause-fault c = ask_or_none c.args.target c.args.bytes.now c.in_ok-frame.frame c.in_ok-frame.used c.ask_of.result c.in_ok-frame.ensures.exact c.if-used-bytes.false c.ask_of.ensures
