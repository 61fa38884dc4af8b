-- how the program ends at a fault
use Rattle.mr_fold.specs.declared.fold_fault.FoldFault.{FoldFault}
use Rattle.mr_fold.specs.declared.fold_fault.FoldFault.TheVariants as folds
use Rattle.mr_talk.specs.declared.fault.LineFault.{LineFault}
use Rattle.mr_talk.specs.declared.fault.LineFault.TheVariants as lines
use Rattle.mr_talk.specs.declared.fault.MessageFault.TheVariants as messages
use Rattle.mr_talk.specs.declared.talk_fault.TalkFault.{TalkFault}
use Rattle.mr_talk.specs.declared.talk_fault.TalkFault.TheVariants as talks
use Rattle.mailfold.specs.declared.ending.Ending.{Ending}
use Rattle.mailfold.specs.declared.ending.Ending.TheVariants.{Stopped, Cut, InUse}
use Rattle.mailfold.specs.declared.fault.Fault.{Fault}
use Rattle.mailfold.specs.declared.fault.Fault.TheVariants as faults

-- a line that ended or broke is cut; one that brought something else is a fault
abbrev pub ending_of_line : LineFault → Ending
ending_of_line lines.Closed = Cut
ending_of_line lines.Read = Cut
ending_of_line lines.Write = Cut
ending_of_line (lines.Message messages.Truncated) = Cut
ending_of_line (lines.Message _) = Stopped

-- a talk is cut exactly where its line is
abbrev pub ending_of_talk : TalkFault → Ending
ending_of_talk (talks.Line fault) = ending_of_line fault
ending_of_talk _ = Stopped

-- a folder that another program has open is in use
abbrev pub ending_of_folder : FoldFault → Ending
ending_of_folder folds.InUse = InUse
ending_of_folder _ = Stopped

-- what is neither is a fault
abbrev pub ending_of : Fault → Ending
ending_of (faults.Folder fault) = ending_of_folder fault
ending_of (faults.Talk fault) = ending_of_talk fault
ending_of _ = Stopped
