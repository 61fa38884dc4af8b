use Rattle.std.proofs.Common.{All, take}
use Rattle.mr_fold.proofs.settling.show.Given as goal

-- the mails so far are shown
abbrev pub invariant-loop-act : goal.invariant-loop-act
invariant-loop-act g l = All (g.F.MailFiles.is_shown l.files) (take l.act-index l.acts)
