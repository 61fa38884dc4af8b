use Rattle.std.proofs.Common.{sym, subst}
use Rattle.mr_compare.proofs.Names.{AreRead, append-nil}
use Rattle.mr_compare.proofs.HeldLemmas.{read_further}
use Rattle.mr_compare.proofs.held.read_all.Goals as goal

pub loop-revision-init : goal.loop-revision-init
loop-revision-init c = λ done a. subst (λ xs. AreRead xs c.args.read.now.items) (sym (append-nil done)) a

pub loop-revision-preserved : goal.loop-revision-preserved
loop-revision-preserved c =
    read_further c.args.read.now.items c.args.revisions.now c.loop-revision.revision-index c.revision-item.result c.loop-revision.read.items c.read_one.new.read.items c.loop-revision-test.true c.revision-item.is c.loop-revision.invariant c.in_ok-read_one.ensures
