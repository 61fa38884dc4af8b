use Rattle.std.specs.Option.{option_copied}
use Rattle.mr_maildir.proofs.FolderLemmas.{folder_name-back}
use Rattle.mr_maildir.proofs.folder.folder_name.Goals as goal

pub returns-in_err-is_name_for-clause-read_back : goal.returns-in_err-is_name_for-clause-read_back
returns-in_err-is_name_for-clause-read_back c = λ free. folder_name-back c.args.label.now (option_copied c.args.told) c.as_str-text.ensures.is_label free

pub returns-in_default-clause-read_back : goal.returns-in_default-clause-read_back
returns-in_default-clause-read_back c = λ free. folder_name-back c.args.label.now (option_copied c.args.told) c.as_str-text.ensures.is_label free
