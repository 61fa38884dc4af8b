use Rattle.std.proofs.Common.{◌≡◌, drop, map}
use Rattle.mr_maildir.specs.Lines.{folder_of, name_of}
use Rattle.mr_maildir.proofs.lines.name_of.Given as goal

abbrev pub invariant-loop-folder : goal.invariant-loop-folder
invariant-loop-folder l = name_of l.label (map folder_of (drop l.folder-index l.folders)) ≡ name_of l.label (map folder_of l.folders)
