-- Replicas that are alike, and whose knowledge is one value, are equal.
use Rattle.std.proofs.Common.{arith}
use Rattle.mr_replica.proofs.Names.{AreOneValue, Form, IsByMeaning, IsItsLog, State}
use Rattle.mr_replica.proofs.Alike.{alike_step, alike_replays}
use Rattle.mr_replica.proofs.Replaying.{replays_as}
use Rattle.mr_replica.specs.One.{AreOneIfAlike, AreOneByLog, AreOneByEvent}

module _ {K : Type 0} (form : Form K) (s t : State K) (one : AreOneValue form s.knowledge t.knowledge) where
  pub equal_if_alike : AreOneIfAlike form s t
  equal_if_alike alike = grind arith

  pub equal_by_log : IsByMeaning form → IsItsLog form s → IsItsLog form t → AreOneByLog form s t
  equal_by_log told h k id filter event_limit log =
      equal_if_alike (alike_replays form told s.id s.filter s.event_limit s.log s t h (replays_as form t.id s.id t.filter s.filter t.event_limit s.event_limit t.log s.log t id filter event_limit log k))

  pub equal_by_event : IsByMeaning form → AreOneByEvent form s t
  equal_by_event told before others event answer other alike na nb h k =
      let both = alike_step form told before others event answer other s t alike na nb h k in
      (both.0, equal_if_alike both.1)
