use Rattle.std.proofs.Common.{◌≡◌, ℕ, take}
use Rattle.mr_scan.specs.inner.Spoiled.{at_inode, last_at, spoiled_of, whole_of}
use Rattle.mr_scan.proofs.inodes.judge.Given as goal

-- the files so far were judged
abbrev pub invariant-loop-file : goal.invariant-loop-file
invariant-loop-file l = record {
  index : (inode : ℕ) → at_inode l.index.entries inode ≡ last_at inode (whole_of l.sizes.entries (take l.file-index l.files));
  spoiled : l.spoiled.items ≡ spoiled_of l.sizes.entries (take l.file-index l.files);
}
