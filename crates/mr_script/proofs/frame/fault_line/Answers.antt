use Rattle.mr_script.proofs.Names.{decimal, fault_name}
use Rattle.mr_wire.specs.Fault.{fault_number}
use Rattle.mr_script.proofs.Lines.{IfOk-same_text}
use Rattle.mr_script.proofs.FrameLemmas.{refused_written}
use Rattle.mr_script.proofs.frame.fault_line.Goals as goal

pub returns : goal.returns
returns c =
    IfOk-same_text c.format.result _ _ c.format.ensures.ok
    (rw (c.number-number.ensures, c.name_of-name.ensures) (refused_written (decimal (fault_number c.args.fault)) (fault_name c.args.fault)))
