use Rattle.std.proofs.Common.{sym, subst}
use Rattle.std.proofs.lemmas.List.{append-nil}
use Rattle.mr_fold.specs.inner.Sizes.{AreSizes}
use Rattle.mr_fold.proofs.SizesLemmas.{sizes_further}
use Rattle.mr_fold.proofs.sizes.put_all.Goals as goal

pub loop-revision-init : goal.loop-revision-init
loop-revision-init c = λ done a. subst (λ xs. AreSizes xs c.args.sizes.now.entries) (sym (append-nil done)) a

pub loop-revision-preserved : goal.loop-revision-preserved
loop-revision-preserved c =
    sizes_further c.args.sizes.now.entries c.args.revisions.now c.loop-revision.revision-index c.revision-item.result c.loop-revision.sizes.entries c.put_told.new.sizes.entries c.loop-revision-test.true c.revision-item.is c.loop-revision.invariant c.in_ok-put_told.ensures
