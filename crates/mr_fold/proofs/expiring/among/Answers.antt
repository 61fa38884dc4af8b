use Rattle.std.proofs.Common.{[], arith, append-nil}
use Rattle.std.proofs.lemmas.List.Elements.{filter_more}
use Rattle.mr_fold.specs.Lacking.{has_digest}
use Rattle.mr_fold.proofs.expiring.among.Goals as goal

pub loop-digest-preserved : goal.loop-digest-preserved
loop-digest-preserved c = grind (arith, filter_more (has_digest c.args.mails.now.keys) c.args.digests.now c.loop-digest.digest-index [] c.loop-digest-test.true, append-nil)
