use Rattle.std.proofs.Common.{◌≡◌, map, take}
use Rattle.std.specs.String.{string_bytes}
use Rattle.mr_scan.specs.Folders.{folder_parts}
use Rattle.mr_fold.specs.Message.{folder_lines}
use Rattle.mr_fold.proofs.message.folder_lines.Given as goal

-- the names of the folders so far are told
abbrev pub invariant-loop-folder : goal.invariant-loop-folder
invariant-loop-folder l = string_bytes l.text ≡ folder_lines (string_bytes l.fn.lines) (map folder_parts (take l.folder-index l.folders)) l.view
