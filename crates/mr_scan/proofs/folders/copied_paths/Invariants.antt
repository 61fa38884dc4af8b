use Rattle.std.proofs.Common.{◌≡◌, map, take}
use Rattle.mr_scan.specs.Folders.{folder_parts}
use Rattle.mr_scan.proofs.folders.copied_paths.Given as goal

abbrev pub invariant-loop-folder : goal.invariant-loop-folder
invariant-loop-folder l = l.paths.items ≡ map (λ folder. folder.path) (map folder_parts (take l.folder-index l.folders))
