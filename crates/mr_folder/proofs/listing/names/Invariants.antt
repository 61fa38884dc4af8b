use Rattle.std.proofs.Common.{◌≡◌, ◌≤◌, IsTrue, length}
use Rattle.mr_folder.proofs.Names.{AreNames, texts}
use Rattle.mr_folder.proofs.listing.names.Given as goal

abbrev pub invariant-loop-folder : goal.invariant-loop-folder
invariant-loop-folder g l = record {
  names : IsTrue g.F.Folders.is_told → AreNames (g.F.Folders.past l.fn.folders) (g.F.Folders.moment l.fn.folders) (g.F.Folders.moment l.folders) (texts l.names.items);
  later : IsTrue g.F.Folders.is_told → g.F.Folders.moment l.fn.folders ≤ g.F.Folders.moment l.folders;
  same : IsTrue g.F.Folders.is_told → g.F.Folders.past l.folders ≡ g.F.Folders.past l.fn.folders;
  count : length l.names.items ≡ l.folder;
}
