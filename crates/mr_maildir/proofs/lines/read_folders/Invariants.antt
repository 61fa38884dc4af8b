use Rattle.std.proofs.Common.{◌≡◌, ◌≤◌, ◌-◌, ◌++◌, ℕ, List, true, false, length, drop, map}
use Rattle.mr_maildir.proofs.Names.{list_all}
use Rattle.mr_maildir.specs.Lines.{FolderParts, folder_line, folder_of, is_folder}
use Rattle.mr_maildir.specs.inner.Lines.{begins_folder}
use Rattle.mr_maildir.proofs.LinesLemmas.{FoldersLeft}
use Rattle.mr_maildir.proofs.lines.read_folders.Given as goal

abbrev pub invariant-loop-i : goal.invariant-loop-i
invariant-loop-i l = record {
  in_range : l.i ≤ length l.lines;
  kept : list_all is_folder (map folder_of l.fn.folders.items) ≡ true → list_all is_folder (map folder_of l.folders.items) ≡ true;
  whole : (told : List FolderParts) (rest : List (List ℕ)) → list_all is_folder told ≡ true → begins_folder rest ≡ false → map (λ line. line.now) (drop l.fn.from l.lines) ≡ map folder_line told ++ rest
      → FoldersLeft (drop l.i l.lines) rest (map folder_of l.fn.folders.items) told (map folder_of l.folders.items);
}

abbrev pub decreases-loop-i : goal.decreases-loop-i
decreases-loop-i l = length l.lines - l.i
