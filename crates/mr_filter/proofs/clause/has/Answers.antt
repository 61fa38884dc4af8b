use Rattle.std.proofs.Common.{◌∙◌, ap}
use Rattle.mr_filter.proofs.Names.{has_label, map-id}
use Rattle.mr_filter.proofs.SearchLemmas.{is_ok-binary_search}
use Rattle.mr_filter.proofs.clause.has.Goals as goal

pub returns : goal.returns
returns c =
    c.is_ok.ensures.value
    ∙ is_ok-binary_search (λ label. label) c.args.labels.now c.args.label.now c.binary_search.result (rw (map-id c.args.labels.now) c.requires) c.binary_search.ensures.bound c.binary_search.ensures.position
    ∙ ap (λ labels. has_label labels c.args.label.now) (map-id c.args.labels.now)
