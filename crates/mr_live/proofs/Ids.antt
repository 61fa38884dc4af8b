-- two replicas that ended have the ids that the plan gave them
use Rattle.std.proofs.Common.{◌≡◌, ◌≢◌, ◌<◌, ◌∷◌, ℕ, List, [], Result, inl, inr, sym, ap, ◌∙◌, arith}
use Rattle.std.proofs.lemmas.List.Elements.{All-push}
use Rattle.std.proofs.lemmas.List.Kept.{AllPairs-cons}
use Rattle.mr_forms.specs.Known.{Form}
use Rattle.mr_replica.specs.State.{State}
use Rattle.mr_replica.specs.Step.{Steps}
use Rattle.mr_replica.specs.declared.event.Event.{Event}
use Rattle.mr_replica.proofs.Replaying.{step_setting}
use Rattle.mr_replica.specs.declared.event.Reply.{Reply}
use Rattle.mr_replica.specs.declared.refusal.Refusal.{Refusal}
use Rattle.mr_settle.specs.Explains.{AreDistinct}
use Rattle.mr_threads.specs.Exchange.{Exchange, Replays}
use Rattle.mr_live.specs.Live.{AreById}
use Rattle.mr_live.specs.Rounds.{Links, RanFrom, RanAlone, TwoRounds}
use Rattle.mr_live.specs.declared.plan.NodePlan.{NodePlan}

module _ {K : Type 0} (form : Form K) where
  replays_keep_id : (s t : State K) (xs : List (Exchange Event (Result Reply Refusal))) → Replays (Steps form) s xs t → t.id ≡ s.id
  replays_keep_id s t [] h = ap (λ (z : State K). z.id) h
  replays_keep_id s t (x ∷ xs) h = replays_keep_id h.0 t xs h.2 ∙ (step_setting form s h.0 x.letter x.answer h.1).id

  ran_keeps_id : (old : State K) (events : List Event) (links : Links) (places : ℕ) (new : State K) → RanFrom form old events links places new → new.id ≡ old.id
  ran_keeps_id old events links places new h =
      ap (λ (z : State K). z.id) h.is ∙ (replays_keep_id h.parts.replica h.end.replica h.ran.ran.exchanges h.ran.ran.replays ∙ ap (λ (z : State K). z.id) h.replica)

  alone_id : (plan : NodePlan) (new : State K) → RanAlone form plan new → new.id ≡ plan.spec.id
  alone_id plan new h = ran_keeps_id h.start plan.events.items h.links plan.spec.port_capacity new h.ran ∙ ap (λ (z : State K). z.id) h.is_new.is

  -- they differ, as those of the nodes
  pub ended_apart : (nodes : NodePlan × NodePlan) (ended : State K × State K) → nodes.0.spec.id ≢ nodes.1.spec.id → TwoRounds form nodes ended → ended.0.id ≢ ended.1.id
  ended_apart nodes ended apart ran same =
      let first : ended.0.id ≡ nodes.0.spec.id = ran_keeps_id ran.between.0 [] ran.both.first_links nodes.0.spec.port_capacity ended.0 ran.both.first ∙ alone_id nodes.0 ran.between.0 ran.first in
      let second : ended.1.id ≡ nodes.1.spec.id = ran_keeps_id ran.between.1 [] ran.both.second_links nodes.1.spec.port_capacity ended.1 ran.both.second ∙ alone_id nodes.1 ran.between.1 ran.second in
      apart (sym first ∙ (same ∙ second))

  lower_distinct : (low high : State K) → low.id < high.id → AreDistinct (low ∷ high ∷ [])
  lower_distinct low high below =
      AllPairs-cons (λ (s t : State K). s.id ≢ t.id) low (high ∷ [])
      (All-push (λ (t : State K). low.id ≢ t.id) [] high (λ k d within same. omega (arith, within)) (λ same. omega (arith, below, same)))
      (AllPairs-cons (λ (s t : State K). s.id ≢ t.id) high [] (λ k d within same. omega (arith, within)) (λ i j d before within same. omega (arith, within)))

  -- so join_logs may be asked
  pub by_id_distinct : (first second : State K) (ends : List (State K)) → AreById first second ends → AreDistinct ends
  by_id_distinct first second ends (inl h) = rw h.1 (lower_distinct first second h.0)
  by_id_distinct first second ends (inr h) = rw h.1 (lower_distinct second first h.0)
