-- Replicas that are alike answer alike, and stay alike.
use Rattle.std.proofs.Common.{◌≡◌, ◌≢◌, refl, sym, ap, subst, ◌∙◌, ℕ, List, [], ◌∷◌, ◌++◌, Result, Ok, Err, arith}
use Rattle.mr_replica.proofs.Names.{Admits, AdmitsAll, AreAlike, AreSame, ClauseParts, Event, Form, IsByMeaning, IsDecided, IsFresh, OutOfMemory, Pairs}
use Rattle.mr_replica.proofs.Names.{Refusal, Replays, Reply, State, Steps, seen}
use Rattle.mr_replica.proofs.Decided.{IsExact, decided}
use Rattle.mr_replica.proofs.Seen.{by_meaning, step_seen}

module _ {K : Type 0} (form : Form K) (told : IsByMeaning form) where
  meaning_exact : (k : K) → IsExact (by_meaning form k)
  meaning_exact k a b same = λ i x y. same x y i

  -- values that know the same choose the same, so their forms over meanings are one
  one_form : (a b : K) → AreSame (form.known a) (form.known b) → by_meaning form a ≡ by_meaning form b
  one_form a b same = grind (arith, by_meaning)

  known_alike : (s t : State K) → AreAlike form s t → AreSame (form.known s.knowledge) (form.known t.knowledge)
  known_alike s t alike = λ item version. ap (λ (z : State Pairs). z.knowledge item version) alike

  -- a step of a replica that is alike, as a step of what is seen of this one
  step_for : (s t : State K) (event : Event) (b : Result Reply Refusal) (t' : State K) → AreAlike form s t → b ≢ Err OutOfMemory → Steps form t event b t' → Steps (by_meaning form s.knowledge) (seen form s) event b (seen form t')
  step_for s t event b t' alike nb h =
      subst (λ (f : Form Pairs). Steps f (seen form s) event b (seen form t')) (sym (one_form s.knowledge t.knowledge (known_alike s t alike)))
      (subst (λ (z : State Pairs). Steps (by_meaning form t.knowledge) z event b (seen form t')) (sym alike) (step_seen form told t event b t' nb h))

  -- REPLICAS THAT ARE ALIKE answer alike, and stay alike
  pub alike_step : (s t : State K) (event : Event) (a b : Result Reply Refusal) (s' t' : State K) → AreAlike form s t → a ≢ Err OutOfMemory → b ≢ Err OutOfMemory
      → Steps form s event a s' → Steps form t event b t' → (b ≡ a) × AreAlike form s' t'
  alike_step s t event a b s' t' alike na nb h k =
      let one = decided (by_meaning form s.knowledge) (seen form s) event a (seen form s') (meaning_exact s.knowledge) (step_seen form told s event a s' na h) na b (seen form t') nb (step_for s t event b t' alike nb k) in
      (one.0, sym one.1)

  pub step_decided : (s : State K) (event : Event) (a : Result Reply Refusal) (new : State K) → Steps form s event a new → IsDecided form s event a new
  step_decided s event a new h na t b after alike nb k = alike_step s t event a b new after alike na nb h k

  -- ---- events one after the other

  no_refusal : (r : Reply) (e : Refusal) → (let answer : Result Reply Refusal = Ok r in answer ≡ Err e) → ⊥
  no_refusal r e is = cc

  alike_admitted : (s t : State K) (event : Event) (s' t' : State K) → AreAlike form s t → Admits form s event s' → Admits form t event t' → AreAlike form s' t'
  alike_admitted s t event s' t' alike h k = (alike_step s t event (Ok h.0) (Ok k.0) s' t' alike (no_refusal h.0 OutOfMemory) (no_refusal k.0 OutOfMemory) h.1 k.1).1

  pub alike_all : (s t : State K) (events : List Event) (s' t' : State K) → AreAlike form s t → AdmitsAll form s events s' → AdmitsAll form t events t' → AreAlike form s' t'
  alike_all s t [] s' t' alike h k = ap (seen form) h ∙ alike ∙ ap (seen form) (sym k)
  alike_all s t (event ∷ events) s' t' alike h k = alike_all h.0 k.0 events s' t' (alike_admitted s t event h.0 k.0 alike h.1 k.1) h.2 k.2

  only_memory : (e : Refusal) → ((e ≢ OutOfMemory) → ⊥) → e ≡ OutOfMemory
  only_memory OutOfMemory h = refl
  only_memory e h = grind arith

  same_refusal : (e f : Refusal) → (let answer : Result Reply Refusal = Err e in answer ≡ Err f) → e ≡ f
  same_refusal e f is = cc

  -- what one admits, one that is alike refuses for want of memory alone
  alike_refused : (s t : State K) (event : Event) (s' t' : State K) (e : Refusal) → AreAlike form s t → Admits form s event s' → Steps form t event (Err e) t' → e ≡ OutOfMemory
  alike_refused s t event s' t' e alike h refuses =
      only_memory e (λ ne. no_refusal h.0 e (sym (alike_step s t event (Ok h.0) (Err e) s' t' alike (no_refusal h.0 OutOfMemory) (λ is. ne (same_refusal e OutOfMemory is)) h.1 refuses).0))

  -- where all events were admitted, one that is alike stops at one of them for want of memory alone
  pub alike_stop : (s t s' t' : State K) (before left : List Event) (event : Event) (e : Refusal) → AreAlike form s t → AdmitsAll form s (before ++ event ∷ left) s' → AdmitsAll form t before t' → Steps form t' event (Err e) t' → e ≡ OutOfMemory
  alike_stop s t s' t' [] left event e alike h k refuses = alike_refused s t event h.0 t' e alike h.1 (subst (λ (z : State K). Steps form z event (Err e) t') k refuses)
  alike_stop s t s' t' (first ∷ before) left event e alike h k refuses = alike_stop h.0 k.0 s' t' before left event e (alike_admitted s t first h.0 k.0 alike h.1 k.1) h.2 k.2 refuses

  -- fresh replicas of one id, filter and limit are alike
  pub alike_fresh : (id : ℕ) (filter : List ClauseParts) (event_limit : ℕ) (a b : State K) → IsFresh form id filter event_limit a → IsFresh form id filter event_limit b → AreAlike form a b
  alike_fresh id filter event_limit a b h k = grind arith

  -- two replays of the same events are alike
  pub alike_replays : (id : ℕ) (filter : List ClauseParts) (event_limit : ℕ) (events : List Event) (s t : State K) → Replays form id filter event_limit events s → Replays form id filter event_limit events t → AreAlike form s t
  alike_replays id filter event_limit events s t h k = alike_all h.fresh k.fresh events s t (alike_fresh id filter event_limit h.fresh k.fresh h.is_fresh k.is_fresh) h.admits k.admits
