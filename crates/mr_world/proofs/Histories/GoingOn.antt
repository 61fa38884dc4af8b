-- Replicas of a world go on: their logs grow, and each stays its log, replayed.
use Rattle.std.proofs.Common.{◌≡◌, refl, sym, ap, subst, ◌∙◌, ℕ, ◌==◌, List, [], ◌∷◌, ◌++◌, append_assoc, append-nil, inl, inr, Option, Some, None, Result, Ok, arith}
use Rattle.mr_world.proofs.Names.Lists.{option_map}
use Rattle.mr_world.proofs.Names.Wire.{Question}
use Rattle.mr_world.proofs.Names.Replica.{Asked, Event as ReplicaEvent, IsAskOf, IsFresh, IsItsLog, Refusal, Reply, State, Steps, fresh_is_its_log}
use Rattle.mr_world.proofs.Names.Replica.{kept, some_same, step_log, step_setting}
use Rattle.mr_world.proofs.Names.Model.{Event, known, ◌does◌}
use Rattle.mr_world.proofs.Names.Laws.{at_same, cases}
use Rattle.mr_world.proofs.Names.Mails.{ClauseParts, Form, Mail}
use Rattle.mr_world.proofs.Names.World.{Answer, AskedTooLong, Happens, IsTooLong, MailMoment, MemberView, Shows, World, WorldView, found_or, ids_of}
use Rattle.mr_world.proofs.Names.World.{member_at, replica_at}
use Rattle.mr_model.specs.declared.event.Act.TheVariants as act
use Rattle.mr_replica.specs.Growing.{admitted}
use Rattle.mr_replica.specs.declared.event.Event.TheVariants as replica
use Rattle.mr_world.specs.declared.answer.Answer.TheVariants as answer
use Rattle.mr_world.proofs.Moving.ByParts.{MovesAt}
use Rattle.mr_world.proofs.Moving.Asking.{step_of}
use Rattle.mr_world.proofs.Moving.ByReplica.{keeps, mover}

-- ---- one replica

module _ {K : Type 0} (form : Form K) where
  -- the replica s has become t
  pub record GoesOn (s t : State K) : Type 0 where
    pub id : t.id ≡ s.id
    pub filter : t.filter ≡ s.filter
    pub event_limit : t.event_limit ≡ s.event_limit
    pub more : List ReplicaEvent
    pub log : t.log ≡ s.log ++ more
    pub its_log : IsItsLog form s → IsItsLog form t

  stays : (s t : State K) → t ≡ s → GoesOn s t
  stays s t same = record {
    id = ap (λ (z : State K). z.id) same;
    filter = ap (λ (z : State K). z.filter) same;
    event_limit = ap (λ (z : State K). z.event_limit) same;
    more = [];
    log = ap (λ (z : State K). z.log) same ∙ sym (append-nil s.log);
    its_log = λ its. subst (λ (z : State K). IsItsLog form z) (sym same) its;
  }

  steps_on : (s t : State K) (event : ReplicaEvent) (given : Result Reply Refusal) → Steps form s event given t → GoesOn s t
  steps_on s t event given step = let setting = step_setting form s t event given step in record {
    id = setting.id;
    filter = setting.filter;
    event_limit = setting.event_limit;
    more = admitted event given;
    log = step_log form s t event given step;
    its_log = λ its. kept form s t event given its step;
  }

  -- ---- a request that was too long

  -- the replica makes it
  asked_now : (m : MailMoment) (r : ℕ) (s t : State K) (q : Question) → Steps form s replica.Pull (Ok (Asked q)) t → IsItsLog form s → IsAskOf form s q → Shows m.issues (form.known s.knowledge) (known m r) → IsTooLong form s.knowledge → AskedTooLong form m r t q
  asked_now m r s t q step its ask knows long = let on = step_setting form s t replica.Pull (Ok (Asked q)) step in record {
    earlier = s;
    later = [];
    replays = rw (on.id, on.filter, on.event_limit) its;
    log = step_log form s t replica.Pull (Ok (Asked q)) step;
    asks = ask;
    knows = knows;
    long = long;
  }

  -- it was made, however the replica went on
  pub asked_later : (m : MailMoment) (r : ℕ) (s t : State K) (q : Question) → GoesOn s t → AskedTooLong form m r s q → AskedTooLong form m r t q
  asked_later m r s t q on asked = record {
    earlier = asked.earlier;
    later = asked.later ++ on.more;
    replays = rw (on.id, on.filter, on.event_limit) asked.replays;
    log = on.log ∙ (ap (λ (log : List ReplicaEvent). log ++ on.more) asked.log ∙ append_assoc asked.earlier.log (replica.Pull ∷ asked.later) on.more);
    asks = asked.asks;
    knows = asked.knows;
    long = asked.long;
  }

  -- ---- all replicas of a world

  module _ (w w' : World K) where
    -- each replica goes on
    pub all_go_on : (e : Event Mail) (given : Answer) → MovesAt form w e given w' → (r : ℕ) → GoesOn (w.replicas r) (w'.replicas r)
    all_go_on e given move = (keeps form w (λ (r : ℕ) (t : State K). GoesOn (w.replicas r) t) (λ b. Unit {0}) given w' (record { replicas = λ r. stays (w.replicas r) (w.replicas r) refl; records = λ sent i. tt })
        (λ r there told new pool same step. (steps_on (w.replicas r) new there (Ok told) step, λ sent e. tt)) (mover form w e given w' move)).replicas

    -- the replica of a request that is too long has made it
    pub has_asked : (m : MailMoment) (r : ℕ) (q : Question) → MovesAt form w (r does act.Pull) (answer.Stepped (Ok (Asked q))) w' → IsItsLog form (w.replicas r) → IsAskOf form (w.replicas r) q
        → Shows m.issues (form.known (w.replicas r).knowledge) (known m r) → IsTooLong form (w.replicas r).knowledge → AskedTooLong form m r (w'.replicas r) q
    has_asked m r q move its ask knows long = grind (arith, step_of, at_same, asked_now)

  -- a fresh replica is its log
  pub fresh_log : (filter : List ClauseParts) (event_limit r : ℕ) (s : State K) → IsFresh form r filter event_limit s → IsItsLog form s
  fresh_log filter event_limit r s fresh = fresh_is_its_log form s r filter event_limit fresh.is_empty fresh.knows_nothing

-- ---- the members of a world

module _ {K : Type 0} where
  -- who was found is the one over all ids
  pub found_is : (unused : MemberView K) (members : List (MemberView K)) (r : ℕ) (s : State K) → replica_at members r ≡ Some s → (found_or unused (member_at members r)).replica ≡ s
  found_is unused members r s = grind (arith, member_at, option_map, found_or, some_same)

  -- where the ids stay, there is a replica of the same id
  pub still_there : (ms ns : List (MemberView K)) (r : ℕ) (s : State K) → ids_of ns ≡ ids_of ms → replica_at ms r ≡ Some s → (t : State K) × (replica_at ns r ≡ Some t)
  still_there [] ns r s ids here = absurd (cc)
  still_there (m ∷ ms) [] r s ids here = let no : (◌≡◌ {A = List ℕ} [] (m.replica.id ∷ ids_of ms)) = ids in absurd (cc)
  still_there (m ∷ ms) (n ∷ ns) r s ids here =
      let both : (◌≡◌ {A = List ℕ} (n.replica.id ∷ ids_of ns) (m.replica.id ∷ ids_of ms)) = ids in
      let first : n.replica.id ≡ m.replica.id = cc in
      let rest : ids_of ns ≡ ids_of ms = cc in
      elim (cases (m.replica.id == r)) [
        | inl t ↦ (n.replica, rw (first, t) refl)
        | inr f ↦ (let later : replica_at ms r ≡ Some s = rw f at here in let found = still_there ms ns r s rest later in (found.0, rw (first, f) found.1))
      ]

  -- the replica of an event that is answered is there
  pub is_there : (form : Form K) (w w' : WorldView K) (e : Event Mail) (answer : Answer) → Happens form w e answer w' → (s : State K) × (replica_at w.members e.replica ≡ Some s)
  is_there form w w' e answer h = (h.old.replica, ap (λ (o : Option (MemberView K)). option_map (λ m. m.replica) o) h.becomes.was)
