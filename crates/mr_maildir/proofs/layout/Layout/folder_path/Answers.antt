use Rattle.std.specs.Option.{option_copied}
use Rattle.mr_maildir.proofs.LayoutLemmas.{label_back}
use Rattle.mr_maildir.proofs.layout.Layout.folder_path.Goals as goal

pub returns-clause-read_back : goal.returns-clause-read_back
returns-clause-read_back c = λ free. label_back c.args.self c.args.label.now (option_copied c.args.told) c.as_str-text.ensures.is_label free
