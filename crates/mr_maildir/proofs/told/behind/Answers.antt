use Rattle.mr_maildir.proofs.ToldLemmas.{behind-strip_prefix}
use Rattle.mr_maildir.proofs.told.behind.Goals as goal

pub returns-clause-value : goal.returns-clause-value
returns-clause-value c = behind-strip_prefix c.args.key.now c.args.line.now c.strip_prefix.result c.strip_prefix.ensures.cases
