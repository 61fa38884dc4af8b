use Rattle.std.proofs.Common.{sym, ◌∙◌}
use Rattle.mr_sync.specs.Host.{IsIdleFaultOf}
use Rattle.mr_sync.proofs.HostLaws.{idle_fault, told_or_idle}
use Rattle.mr_sync.proofs.TakeLaws.{passed_on}
use Rattle.mr_sync.proofs.host.FolderHost.idle_hellos.Goals as goal

pub returns-in_err-mine-clause-fault : goal.returns-in_err-mine-clause-fault
returns-in_err-mine-clause-fault g c =
    passed_on (IsIdleFaultOf c.args.self.now) c.in_err-mine.field-0.0 c.from_residual.result c.from_residual.ensures.1
    (idle_fault c.args.self.now c.in-Some.theirs c.in_err-mine.field-0.0 c.in-Some.is (sym c.lacks.ensures ∙ c.if-lacks.false) c.in_err-mine.ensures.fault)

pub returns-clause-found : goal.returns-clause-found
returns-clause-found g c =
    told_or_idle c.args.self.now (record { mine = c.in_ok-mine.mine; theirs = c.in-Some.theirs }) c.in_ok-mine.is_idle c.then_some.result c.then_some.ensures c.in-Some.is
    (sym c.lacks.ensures ∙ c.if-lacks.false) c.in_ok-mine.ensures.says c.in_ok-mine.ensures.judges
