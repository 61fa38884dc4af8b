use Rattle.std.proofs.Common.{◌∙◌}
use Rattle.mr_store.proofs.RevisionLemmas.{found_holds}
use Rattle.mr_store.proofs.by_version.has_version.Goals as goal

pub returns : goal.returns
returns c = c.is_ok.ensures.value ∙ found_holds c.args.revisions.now c.args.version c.search.result c.search.ensures.found c.search.ensures.absent
