use Rattle.std.proofs.Common.{refl, ap}
use Rattle.mr_replica.specs.State.{State}
use Rattle.mr_replica.proofs.replica.Core.own_left.Goals as goal

pub returns : goal.returns
returns g c =
    let id = ap (λ (p : State g.row.K.Denot). p.id) c.self.view_is in
    let heads = ap (λ (p : State g.row.K.Denot). p.heads) c.self.view_is in
    let push_outs = ap (λ (p : State g.row.K.Denot). p.push_outs) c.self.view_is in
    rw (c.lower.ensures, c.first_left.ensures, c.first_left-2.ensures, c.heads_of.ensures, c.push_outs_of.ensures, c.store-store.ensures, id, heads, push_outs) refl
