use Rattle.mr_maildir.proofs.ToldLemmas.{told-with_folder, name-with_folder}
use Rattle.mr_maildir.proofs.told.with_told_folder.Goals as goal

pub returns-clause-told : goal.returns-clause-told
returns-clause-told c = λ safe. told-with_folder c.args.label.now c.args.name.now c.args.lines.now c.as_str-text.ensures.is_label safe

pub returns-clause-name : goal.returns-clause-name
returns-clause-name c = name-with_folder c.args.label.now c.args.name.now c.args.lines.now c.as_str-text.ensures.is_label
