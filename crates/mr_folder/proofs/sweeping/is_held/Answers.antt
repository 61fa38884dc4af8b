use Rattle.std.proofs.Common.{◌∙◌, sym}
use Rattle.mr_folder.proofs.HeldLemmas.{held-search}
use Rattle.mr_folder.proofs.sweeping.is_held.Goals as goal

pub returns : goal.returns
returns c =
    let found = held-search c.args.held.now c.args.digest.now c.binary_search.result c.requires c.binary_search.ensures.bound c.binary_search.ensures.position in
    (λ yes. found.0 (sym c.is_ok.ensures.value ∙ yes), λ among. c.is_ok.ensures.value ∙ found.1 among)
