use Rattle.std.proofs.Common.{rules}
use Rattle.mr_fold.proofs.settling.note.Goals as goal

pub returns-in_err-sync-clause-failed : goal.returns-in_err-sync-clause-failed
returns-in_err-sync-clause-failed g c = search rules

pub returns-in_err-lacking-clause-failed : goal.returns-in_err-lacking-clause-failed
returns-in_err-lacking-clause-failed g c = search rules

pub returns-in_err-note_shown-clause-failed : goal.returns-in_err-note_shown-clause-failed
returns-in_err-note_shown-clause-failed g c = search rules
