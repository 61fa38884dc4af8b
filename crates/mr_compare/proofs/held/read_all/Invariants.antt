use Rattle.std.proofs.Common.{List, ◌++◌, take}
use Rattle.mr_compare.proofs.Names.{AreRead, Rev}
use Rattle.mr_compare.proofs.held.read_all.Given as goal

-- the revisions so far were read
abbrev pub invariant-loop-revision : goal.invariant-loop-revision
invariant-loop-revision l = (done : List Rev) → AreRead done l.fn.read.items → AreRead (done ++ take l.revision-index l.revisions) l.read.items
