use Rattle.mr_scan.proofs.FolderLemmas.{pushed_more}
use Rattle.mr_scan.proofs.folders.taken_folders.Goals as goal

pub loop-path-preserved : goal.loop-path-preserved
loop-path-preserved c =
    pushed_more c.args.layout c.loop-path.yielded c.in-Some.path c.in_ok-folder.folder c.loop-path.folders.items c.push_first.new.folders.items c.loop-path.invariant c.in_ok-folder.ensures c.in_ok-push_first.ensures
