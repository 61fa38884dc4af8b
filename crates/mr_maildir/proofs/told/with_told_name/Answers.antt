use Rattle.mr_maildir.proofs.ToldLemmas.{told-with_name, folders-with_name}
use Rattle.mr_maildir.proofs.told.with_told_name.Goals as goal

pub returns-clause-told : goal.returns-clause-told
returns-clause-told c = λ safe. told-with_name c.args.name.now c.args.lines.now safe

pub returns-clause-folders : goal.returns-clause-folders
returns-clause-folders c = λ label. folders-with_name label c.args.name.now c.args.lines.now
