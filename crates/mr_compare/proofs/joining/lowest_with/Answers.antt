use Rattle.mr_compare.proofs.JoiningLemmas.{lowest-step}
use Rattle.mr_compare.proofs.joining.lowest_with.Goals as goal

pub loop-version-preserved : goal.loop-version-preserved
loop-version-preserved c = λ others known.
    lowest-step others c.args.versions.now c.loop-version.version-index c.version-item.result c.loop-version.first c.lower.result c.loop-version-test.true c.version-item.is c.lower.ensures (c.loop-version.invariant others known)
