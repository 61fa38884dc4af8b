use Rattle.mr_audit.proofs.BeginningLemmas.{verdict_told}
use Rattle.mr_audit.proofs.verdict.audit.Goals as goal

pub returns-in-Err : goal.returns-in-Err
returns-in-Err g c = record { verdict = verdict_told g.K.Knowledge.form c.args.ends.now c.in-Err.fault c.verdict_of.result c.in-Err.ensures.why c.verdict_of.ensures }
