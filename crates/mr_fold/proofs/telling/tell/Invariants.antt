use Rattle.std.proofs.Common.{take}
use Rattle.mr_kept.specs.Kept.{SameJournal, replica_of}
use Rattle.mr_fold.specs.Settling.{Stay}
use Rattle.mr_fold.specs.Telling.{TellsAll, Grows}
use Rattle.mr_fold.proofs.telling.tell.Given as goal

-- the log grew by what is told of the mails so far, and the journal and the files stay
abbrev pub invariant-loop-mail : goal.invariant-loop-mail
invariant-loop-mail g l = record {
  told : Grows (TellsAll l.held.entries (take l.mail-index l.acts)) (replica_of l.fn.kept) (replica_of l.kept);
  journal : SameJournal l.fn.kept l.kept;
  stay : Stay g.F.MailFiles.are_synced g.F.MailFiles.is_shown l.fn.files l.files;
}
