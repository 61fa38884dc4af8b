use Rattle.std.proofs.Common.{sym, subst}
use Rattle.std.specs.Prelude.{string_bytes}
use Rattle.std.specs.Option.{option_copied}
use Rattle.mr_folder.specs.Inside.{IsFolder}
use Rattle.mr_scan.proofs.PathLemmas.{label_folder}
use Rattle.mr_scan.proofs.folders.made_path.Goals as goal

pub path_of-requires : goal.path_of-requires
path_of-requires c =
    subst IsFolder (sym c.as_str.ensures.value)
    (label_folder c.args.layout c.args.label.now (option_copied c.args.told) (string_bytes c.in_ok-path.path) c.in_ok-path.ensures.value c.in_ok-path.ensures.below c.in_ok-path.ensures.not_own)
