use Rattle.std.proofs.Common.{ap}
use Rattle.mr_store.proofs.Names.{Holdings, RevisionParts}
use Rattle.mr_store.proofs.HoldingLemmas.{revision_of-neither, apart_entered_first, apart_entered_second}
use Rattle.mr_store.proofs.store.Store.enter.Goals as goal

pub put-requires-clause-new : goal.put-requires-clause-new
put-requires-clause-new c =
    let heads = ap (λ (h : Holdings). h.heads) c.self.view_is in
    rw heads (revision_of-neither c.args.self.now.heads c.args.self.now.push_outs c.args.revision.version c.requires.new).first

pub invariant_of-self : goal.invariant_of-self
invariant_of-self c =
    let push_outs = ap (λ (h : Holdings). h.push_outs) c.self.view_is in
    rw (ap (λ (s : RevisionParts). s.revisions) c.put.ensures)
    (apart_entered_first c.args.revision c.self.inside.heads.revisions c.self.inside.push_outs.revisions c.self.invariant
    (rw push_outs (revision_of-neither c.args.self.now.heads c.args.self.now.push_outs c.args.revision.version c.requires.new).second))

pub put-requires-in-PushOuts-clause-new : goal.put-requires-in-PushOuts-clause-new
put-requires-in-PushOuts-clause-new c =
    let push_outs = ap (λ (h : Holdings). h.push_outs) c.self.view_is in
    rw push_outs (revision_of-neither c.args.self.now.heads c.args.self.now.push_outs c.args.revision.version c.requires.new).second

pub invariant_of-self-in-PushOuts : goal.invariant_of-self-in-PushOuts
invariant_of-self-in-PushOuts c =
    let heads = ap (λ (h : Holdings). h.heads) c.self.view_is in
    rw (ap (λ (s : RevisionParts). s.revisions) c.put-in-PushOuts.ensures)
    (apart_entered_second c.args.revision c.self.inside.heads.revisions c.self.inside.push_outs.revisions c.self.invariant
    (rw heads (revision_of-neither c.args.self.now.heads c.args.self.now.push_outs c.args.revision.version c.requires.new).first))
