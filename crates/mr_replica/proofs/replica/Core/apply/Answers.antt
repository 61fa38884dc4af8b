use Rattle.std.proofs.Common.{refl, sym, subst}
use Rattle.mr_replica.proofs.Names.{MayApply, State, parts_seen}
use Rattle.mr_replica.proofs.replica.Core.apply.Goals as goal

pub put-requires : goal.put-requires
put-requires g c = (subst (λ (t : State g.row.K.Denot). MayApply g.K.Knowledge.form t c.args.change c.args.event) (sym c.self.view_is) c.requires c.self.invariant).0

-- the change was put in
pub invariant_of-self-2 : goal.invariant_of-self-2
invariant_of-self-2 g c =
    let may = subst (λ (t : State g.row.K.Denot). MayApply g.K.Knowledge.form t c.args.change c.args.event) (sym c.self.view_is) c.requires c.self.invariant in
    let is = c.note_event.ensures in
    rw (is.heads, is.push_outs, is.trail, is.feed, is.push_out_feed, is.log) (may.1 (parts_seen c.put.new.self) c.in_ok-put.ensures.puts)

pub returns : goal.returns
returns g c =
    let is = c.note_event.ensures in
    rw (← c.self.view_is) (parts_seen c.put.new.self, c.in_ok-put.ensures.puts, rw (is.heads, is.push_outs, is.trail, is.feed, is.push_out_feed, is.log) refl)
