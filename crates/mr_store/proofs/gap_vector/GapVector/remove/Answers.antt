use Rattle.std.proofs.Common.{◌∙◌, ap, List, drop, remove}
use Rattle.mr_store.proofs.Names.{GapParts, Rev}
use Rattle.mr_store.proofs.GapLemmas.{drop-remove}
use Rattle.mr_store.proofs.gap_vector.GapVector.remove.Goals as goal

pub returns-else-place-as_slice-clause-items : goal.returns-else-place-as_slice-clause-items
returns-else-place-as_slice-clause-items c =
    let behind = ap (λ (v : GapParts). v.items) c.self.view_is in
    ap (λ (rs : List Rev). drop c.self.inside.gap rs) c.remove.ensures.items
    ∙ (drop-remove c.self.inside.gap c.args.place c.self.inside.slots.items (rw behind c.requires)
    ∙ ap (λ (rs : List Rev). remove rs c.args.place) behind)
