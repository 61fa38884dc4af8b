use Rattle.std.proofs.Common.{◌≡◌, map, take}
use Rattle.mr_scan.specs.Seen.{file_label}
use Rattle.mr_scan.proofs.seeing.labels_of.Given as goal

abbrev pub invariant-loop-file : goal.invariant-loop-file
invariant-loop-file l = l.labels.items ≡ map file_label (take l.file-index l.files)
