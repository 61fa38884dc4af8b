use Rattle.std.proofs.Common.{List, ◌++◌, take}
use Rattle.mr_madewith.specs.Revision.{Rev}
use Rattle.mr_fold.specs.inner.Sizes.{AreSizes}
use Rattle.mr_fold.proofs.sizes.put_all.Given as goal

-- the sizes of the revisions so far were put in
abbrev pub invariant-loop-revision : goal.invariant-loop-revision
invariant-loop-revision l = (done : List Rev) → AreSizes done l.fn.sizes.entries → AreSizes (done ++ take l.revision-index l.revisions) l.sizes.entries
