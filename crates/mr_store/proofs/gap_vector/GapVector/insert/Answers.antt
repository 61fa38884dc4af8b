use Rattle.std.proofs.Common.{◌≤◌, ◌∙◌, ap, List, insert, length, arith}
use Rattle.mr_store.proofs.Names.{GapParts, Rev}
use Rattle.mr_store.proofs.GapLemmas.{drop-insert}
use Rattle.mr_store.proofs.gap_vector.GapVector.insert.Goals as goal

pub returns : goal.returns
returns c =
    let behind = ap (λ (v : GapParts). v.items) c.self.view_is in
    let gap_within : c.self.inside.gap ≤ length c.self.inside.slots.items = omega (arith, c.self.invariant) in
    rw (c.insert.ensures.items, c.unwrap.ensures)
    (drop-insert c.self.inside.gap c.args.place c.self.inside.slots.items c.args.revision gap_within (rw behind c.requires.within)
    ∙ ap (λ (rs : List Rev). insert rs c.args.place c.args.revision) behind)
