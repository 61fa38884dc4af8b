use Rattle.std.proofs.Common.{◌≡◌, None, IfOk, ap, refl, sym, subst}
use Rattle.mr_replica.proofs.Names.{GivesNext, Holdings, IfOk-weaker, State, advanced, going_on, held_now, next_refusal, parts_seen, same_gives}
use Rattle.mr_replica.proofs.Keeping.{goes_on}
use Rattle.mr_replica.proofs.replica.Core.given.Goals as goal

-- the stream may go on
pub prepare-requires-clause-goes_on : goal.prepare-requires-clause-goes_on
prepare-requires-clause-goes_on g c =
    goes_on g.K.Knowledge.form (parts_seen c.self.inside.parts) c.self.invariant c.args.stream (subst (λ (p : State g.row.K.Denot). next_refusal p c.args.stream ≡ None) (sym c.self.view_is) c.requires)

-- it is of what is held now
pub returns : goal.returns
returns g c =
    let s : State g.row.K.Denot = parts_seen c.self.inside.parts in
    let heads = ap (λ (h : Holdings). h.heads) c.store.ensures in
    let push_outs = ap (λ (h : Holdings). h.push_outs) c.store.ensures in
    subst (λ (t : State g.row.K.Denot). IfOk c.prepare.result (λ p. GivesNext t c.args.stream p.record (going_on t c.args.stream p.onward))) c.self.view_is
    (IfOk-weaker c.prepare.result _ _ (λ p gives.
    let streams = advanced c.args.stream p.onward s.streams in
    (streams, same_gives s.id c.args.stream s.streams c.store.result.now (held_now s) p.record streams heads push_outs gives, refl)) c.prepare.ensures.gives)
