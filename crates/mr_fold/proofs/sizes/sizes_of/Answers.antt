use Rattle.std.proofs.Common.{[], subst, sym}
use Rattle.mr_fold.specs.inner.Sizes.{AreSizes}
use Rattle.mr_fold.proofs.SizesLemmas.{sizes_none}
use Rattle.mr_fold.proofs.sizes.sizes_of.Goals as goal

pub returns : goal.returns
returns c = c.in_ok-put_all-2.ensures c.args.heads.now (c.in_ok-put_all.ensures [] (subst (λ sizes. AreSizes [] sizes) (sym c.new-sizes.ensures.empty) sizes_none))
