use Rattle.std.proofs.Common.{◌≡◌, ◌++◌, take}
use Rattle.mr_maildir.proofs.Names.{flat_map, link_in, mail_in}
use Rattle.mr_maildir.proofs.plan.MailNames.push_links.Given as goal

abbrev pub invariant-loop-label : goal.invariant-loop-label
invariant-loop-label l = l.acts.items ≡ l.fn.acts.items ++ flat_map (link_in (mail_in l.self)) (take l.label-index l.labels)
