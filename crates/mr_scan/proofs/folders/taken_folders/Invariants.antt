use Rattle.std.proofs.Common.{◌≡◌, map}
use Rattle.mr_scan.specs.Folders.{folder_parts, folders_there}
use Rattle.mr_scan.proofs.folders.taken_folders.Given as goal

-- the folders at the paths so far
abbrev pub invariant-loop-path : goal.invariant-loop-path
invariant-loop-path l = map folder_parts l.folders.items ≡ folders_there l.layout l.yielded
