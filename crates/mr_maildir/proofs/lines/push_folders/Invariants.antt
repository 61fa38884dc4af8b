use Rattle.std.proofs.Common.{◌≡◌, ◌++◌, drop, map, string_bytes}
use Rattle.mr_maildir.proofs.Names.{flat_map}
use Rattle.mr_maildir.specs.Counts.{ended}
use Rattle.mr_maildir.specs.Lines.{folder_line, folder_of}
use Rattle.mr_maildir.proofs.lines.push_folders.Given as goal

abbrev pub invariant-loop-folder : goal.invariant-loop-folder
invariant-loop-folder l = string_bytes l.text ++ flat_map ended (map folder_line (map folder_of (drop l.folder-index l.folders))) ≡ string_bytes l.fn.text ++ flat_map ended (map folder_line (map folder_of l.folders))
