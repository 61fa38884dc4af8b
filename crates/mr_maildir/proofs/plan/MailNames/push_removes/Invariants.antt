use Rattle.std.proofs.Common.{◌≡◌, ◌++◌, take}
use Rattle.mr_maildir.proofs.Names.{flat_map, mail_in, remove_of}
use Rattle.mr_maildir.proofs.plan.MailNames.push_removes.Given as goal

abbrev pub invariant-loop-file : goal.invariant-loop-file
invariant-loop-file l = l.acts.items ≡ l.fn.acts.items ++ flat_map (remove_of (mail_in l.self) l.labels) (take l.file-index l.file-items)
