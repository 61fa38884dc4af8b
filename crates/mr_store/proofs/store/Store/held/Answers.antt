use Rattle.std.proofs.Common.{◌∙◌, ap}
use Rattle.mr_store.specs.Holdings.{Holdings}
use Rattle.mr_store.proofs.HoldingLemmas.{revision_of-first, revision_of-second}
use Rattle.mr_store.proofs.store.Store.held.Goals as goal

pub returns-in-Some : goal.returns-in-Some
returns-in-Some c =
    let heads = ap (λ (h : Holdings). h.heads) c.self.view_is in
    revision_of-first c.args.self.now.heads c.args.self.now.push_outs c.args.version c.in-Some.revision.now (rw heads at c.in-Some.ensures)

pub returns-in-None : goal.returns-in-None
returns-in-None c =
    let heads = ap (λ (h : Holdings). h.heads) c.self.view_is in
    let push_outs = ap (λ (h : Holdings). h.push_outs) c.self.view_is in
    (rw push_outs at c.revision-in-None.ensures) ∙ revision_of-second c.args.self.now.heads c.args.self.now.push_outs c.args.version (rw heads at c.in-None.ensures)
