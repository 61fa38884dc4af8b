use Rattle.std.proofs.Common.{◌≡◌, ◌≤◌, IsTrue, length}
use Rattle.mr_folder.specs.inner.Quiet.{AreTimes}
use Rattle.mr_folder.proofs.listing.times.Given as goal

abbrev pub invariant-loop-folder : goal.invariant-loop-folder
invariant-loop-folder g l = record {
  times : IsTrue g.F.Folders.is_told → AreTimes (g.F.Folders.past l.fn.folders) (g.F.Folders.moment l.fn.folders) (g.F.Folders.moment l.folders) l.times.items;
  later : IsTrue g.F.Folders.is_told → g.F.Folders.moment l.fn.folders ≤ g.F.Folders.moment l.folders;
  same : IsTrue g.F.Folders.is_told → g.F.Folders.past l.folders ≡ g.F.Folders.past l.fn.folders;
  count : length l.times.items ≡ l.folder;
}
