use Rattle.mr_maildir.proofs.LayoutLemmas.{written_at}
use Rattle.mr_maildir.proofs.layout.Layout.folder_at.Goals as goal

pub returns-in-Plain-clause-written : goal.returns-in-Plain-clause-written
returns-in-Plain-clause-written c = written_at c.args.self c.args.path.now
