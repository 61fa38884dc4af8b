-- a mail from names that are lent
use Rattle.mr_maildir.specs.declared.plan.MailNames.{MailNames}
use Rattle.mr_maildir.specs.FileActs.{Mail}

-- ---- names that are taken

abbrev pub mail_in : MailNames → Mail
mail_in names = record { seen = names.seen.now; taken = names.taken.now; flags = names.flags; spare = names.spare.now; digits = names.digits.now }
