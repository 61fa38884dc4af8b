-- What happens in a world is a move of it, over all ids.
use Rattle.std.proofs.Common.{◌≡◌, ◌≢◌, ◌==◌, ◌&&◌, ℕ, Bool, true, false, cond, refl, sym, ap, subst, eqb-true, arith}
use Rattle.mr_world.proofs.Names.Lists.{eqb-false}
use Rattle.mr_world.proofs.Names.Model.{Event, at, at_two}
use Rattle.mr_world.proofs.Names.Mails.{Form, Mail}
use Rattle.mr_world.proofs.Names.World.{Answer, Does, Happens, MemberView, Moves, Port, World, WorldView, found_or, member_at, member_of}
use Rattle.mr_world.proofs.Names.World.{port_numbered, with_member, world_of}

module _ {K : Type 0} (form : Form K) (w : WorldView K) (e : Event Mail) (answer : Answer) (w' : WorldView K) (h : Happens form w e answer w') where
  module _ (unused : ℕ → MemberView K) (third : Port) where
    abbrev r : ℕ
    r = e.replica

    -- the member of the id, or the unused one
    abbrev whose : WorldView K → ℕ → MemberView K
    whose v q = found_or (unused q) (member_at v.members q)

    abbrev before : World K
    before = world_of unused third w

    old_there : whose w r ≡ h.old
    old_there = ap (found_or (unused r)) h.becomes.was

    new_there : whose w' r ≡ h.new
    new_there = ap (found_or (unused r)) h.becomes.is

    other_there : (q : ℕ) → q ≢ r → whose w' q ≡ whose w q
    other_there q ne = ap (found_or (unused q)) (h.becomes.others q ne)

    replica_then : (q : ℕ) → (whose w' q).replica ≡ at before.replicas r h.new.replica q
    replica_then q = grind (arith, eqb-true, new_there, other_there, eqb-false)

    -- a new port to each of the two
    new_ports : (m n : MemberView K) (t : ℕ) → port_numbered m third t ≡ cond (t == 1) m.notifier (cond (t == 0) m.indexer (port_numbered n third t))
    new_ports m n t = grind (arith, eqb-true)

    port_then : (q t : ℕ) → port_numbered (whose w' q) third t ≡ at_two (at_two before.ports r 0 h.new.indexer) r 1 h.new.notifier q t
    port_then q t = grind (arith, port_numbered, eqb-true, new_there, new_ports, other_there, eqb-false)

    same_member : member_of before r ≡ h.old
    same_member = ap (λ (m : MemberView K). record { replica = m.replica; indexer = m.indexer; notifier = m.notifier }) old_there

    afterwards : world_of unused third w' ≡ with_member before r h.new answer
    afterwards = grind (arith, replica_then, port_then)

    -- whatever stands for the replicas that it hasn't got
    pub moves : Moves form before e answer (world_of unused third w')
    moves = (h.task, h.new, h.asks, subst (λ (m : MemberView K). Does form h.task m answer h.new) (sym same_member) h.does, afterwards)
