-- What a replica that replayed a beginning of a log does with the next event.
use Rattle.std.proofs.Common.{◌≡◌, ◌≢◌, ℕ, List, [], ◌∷◌, ◌++◌, Result, Ok, Err, refl, subst}
use Rattle.mr_settle.proofs.Names.{Admits, AdmitsAll, ClauseParts, Form, IsByMeaning, OutOfMemory, Refusal, Replays, Reply, State, Steps, alike_all}
use Rattle.mr_settle.proofs.Names.{alike_fresh, alike_step}
use Rattle.mr_replica.specs.declared.event.Event.{Event}

no_refusal : (r : Reply) (e : Refusal) → (let answer : Result Reply Refusal = Ok r in answer ≡ Err e) → ⊥
no_refusal r e is = cc

module _ {K : Type 0} (form : Form K) where
  -- where more events were admitted, so were the first ones
  pub split_all : (s s' : State K) (before left : List Event) → AdmitsAll form s (before ++ left) s' → (mid : State K) × AdmitsAll form s before mid × AdmitsAll form mid left s'
  split_all s s' [] left h = (s, refl, h)
  split_all s s' (event ∷ before) left h = let rest = split_all h.0 s' before left h.2 in (rest.0, (h.0, h.1, rest.1), rest.2)

  -- one event more
  admits_more : (s mid new : State K) (events : List Event) (event : Event) → AdmitsAll form s events mid → Admits form mid event new → AdmitsAll form s (events ++ event ∷ []) new
  admits_more s mid new [] event h more = (new, subst (λ (z : State K). Admits form z event new) h more, refl)
  admits_more s mid new (e ∷ events) event h more = (h.0, h.1, admits_more h.0 mid new events event h.2 more)

  pub replays_more : (id : ℕ) (filter : List ClauseParts) (event_limit : ℕ) (events : List Event) (event : Event) (s s' : State K) → Replays form id filter event_limit events s → Admits form s event s' → Replays form id filter event_limit (events ++ event ∷ []) s'
  replays_more id filter event_limit events event s s' h more = record { fresh = h.fresh; is_fresh = h.is_fresh; admits = admits_more h.fresh s s' events event h.admits more }

module _ {K : Type 0} (form : Form K) (told : IsByMeaning form) where
  -- A replica that has replayed a beginning of a log does not refuse the next event, but for want of memory.
  pub next_admitted : (id : ℕ) (filter : List ClauseParts) (event_limit : ℕ) (before left : List Event) (event : Event) (end s s' : State K) (answer : Result Reply Refusal)
      → Replays form id filter event_limit (before ++ event ∷ left) end → Replays form id filter event_limit before s → answer ≢ Err OutOfMemory → Steps form s event answer s'
      → (reply : Reply) × (answer ≡ Ok reply)
  next_admitted id filter event_limit before left event end s s' answer h k ne step =
      let parts = split_all form h.fresh end before (event ∷ left) h.admits in
      let alike = alike_all form told h.fresh k.fresh before parts.0 s (alike_fresh form told id filter event_limit h.fresh k.fresh h.is_fresh k.is_fresh) parts.1 k.admits in
      let admitted = parts.2.1 in
      (admitted.0, (alike_step form told parts.0 s event (Ok admitted.0) answer parts.2.0 s' alike (no_refusal admitted.0 OutOfMemory) ne admitted.1 step).0)
