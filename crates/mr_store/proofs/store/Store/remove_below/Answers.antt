use Rattle.std.proofs.Common.{ap, not, []}
use Rattle.mr_store.proofs.Names.{Rev, RevisionParts, leaves, supersedes}
use Rattle.mr_store.proofs.HoldingLemmas.{apart_kept, no_new-filter}
use Rattle.mr_store.proofs.store.Store.remove_below.Goals as goal

pub invariant_of-self : goal.invariant_of-self
invariant_of-self c =
    let stays = λ (r : Rev). not (supersedes c.args.item (leaves [] c.args.below.now) r) in
    let heads = c.self.inside.heads.revisions in
    let push_outs = c.self.inside.push_outs.revisions in
    rw (ap (λ (s : RevisionParts). s.revisions) c.remove_leaving.ensures, ap (λ (s : RevisionParts). s.revisions) c.remove_leaving-2.ensures)
    (apart_kept heads push_outs _ _ c.self.invariant (no_new-filter stays heads) (no_new-filter stays push_outs))
