-- What a port gives is what a world answers.
use Rattle.std.proofs.Common.{◌≡◌, ℕ, List, [], ◌++◌, refl, sym, ap, ◌∙◌, arith}
use Rattle.mr_world.proofs.Names.Lists.{IsFalse, IsTrue, ◌↔◌}
use Rattle.mr_world.proofs.Names.Mails.{Entry}
use Rattle.mr_world.proofs.Names.World.{Answer, Port, Takes}
use Rattle.mr_feed.specs.PlainPort.{PortView}
use Rattle.mr_feed.specs.Port.{taken_entries}
use Rattle.mr_feed.specs.declared.port.Taken.{Taken}
use Rattle.mr_feed.specs.declared.port.Taken.TheVariants as taken
use Rattle.mr_world.specs.inner.TakenAnswer.{answer_taken}

same_port : (p p' : PortView) (n : ℕ) → p'.waiting ≡ p.waiting → p' ≡ record p { waiting = p'.waiting } → ◌≡◌ {A = Port} (record { view = p'; offered = n }) (record { view = p; offered = n })
same_port p p' n same others = ap (λ (v : PortView). record { view = v; offered = n }) (others ∙ ap (λ (w : List Entry). record p { waiting = w }) same)

-- a take of the port is one of the outlet
taken_is : (p p' : PortView) (n : ℕ) (t : Taken) → p.waiting ≡ taken_entries t ++ p'.waiting → (t ≡ taken.Empty) ↔ ((p.waiting ≡ []) × IsFalse p.closed) → (t ≡ taken.Closed) ↔ ((p.waiting ≡ []) × IsTrue p.closed)
    → p' ≡ record p { waiting = p'.waiting } → Takes (record { view = p; offered = n }) (answer_taken t) (record { view = p'; offered = n })
taken_is p p' n t first empty closed others = grind (arith, same_port)

-- the same, of the answer
pub taken_so : (p p' : PortView) (n : ℕ) (t : Taken) (answer : Answer) → answer ≡ answer_taken t → p.waiting ≡ taken_entries t ++ p'.waiting → (t ≡ taken.Empty) ↔ ((p.waiting ≡ []) × IsFalse p.closed) → (t ≡ taken.Closed) ↔ ((p.waiting ≡ []) × IsTrue p.closed)
    → p' ≡ record p { waiting = p'.waiting } → Takes (record { view = p; offered = n }) answer (record { view = p'; offered = n })
taken_so p p' n t answer e first empty closed others = rw e (taken_is p p' n t first empty closed others)
