use Rattle.mr_scan.proofs.SpoiledLemmas.{spoiled_more, whole_more}
use Rattle.mr_scan.specs.inner.Spoiled.{at_inode}
use Rattle.mr_scan.proofs.inodes.judge.Goals as goal

pub loop-file-preserved : goal.loop-file-preserved
loop-file-preserved c = record {
  index = λ inode.
      whole_more c.args.sizes.now.entries c.args.files.now c.loop-file.file-index _ inode c.is_spoiled-is_spoiled.result (at_inode c.loop-file.index.entries inode) (at_inode c.insert_unless.new.index.entries inode)
      c.loop-file-test.true c.is_spoiled-is_spoiled.ensures (c.loop-file.invariant.index inode) (c.in_ok-insert_unless.ensures inode);
  spoiled =
      spoiled_more c.args.sizes.now.entries c.args.files.now c.loop-file.file-index _ c.is_spoiled-is_spoiled.result c.loop-file.spoiled.items c.push_if.new.digests.items
      c.loop-file-test.true c.is_spoiled-is_spoiled.ensures c.loop-file.invariant.spoiled c.in_ok-push_if.ensures;
}
