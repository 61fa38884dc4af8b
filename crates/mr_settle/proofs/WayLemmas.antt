-- How a world comes along the logs, event by event.
use Rattle.std.proofs.Common.{◌≡◌, ◌≢◌, ◌<◌, refl, sym, ap, subst, ◌∙◌, ◌+◌, ◌==◌, arith, ℕ, zero, suc, true, false, List, [], ◌∷◌, ◌++◌, length, map, take, Option, Some, None, Result, Ok, inl, inr, ◌⊎◌, eq-eqb}
use Rattle.mr_settle.proofs.Names.{All, All-nil, AllPairs-head, AllPairs-tail, AllZip, Answer, AreDistinct, ClauseParts, Event, Form, GivenNumbers, Grew}
use Rattle.mr_settle.proofs.Names.{Happens, HappensSo, IsAt, IsByMeaning, IsFresh, IsItsLog, IsMadeOf, IsNext, IsReady, IsSome, IsSpecOf, IsStartOf}
use Rattle.mr_settle.proofs.Names.{IsUnderWay, IsWorldOf, Leads, Mail, MemberView, NotesNewest, OnlyAdmits, Progress, Ready, Refusal, Replays, Reply, Spec}
use Rattle.mr_settle.proofs.Names.{State, Stepped, Steps, Task, TellAll, WorldView, admitted_at, asked_in, cases_eq, done_of, ids_of, is_none, left_over}
use Rattle.mr_settle.proofs.Names.{length-set, log_in, member_at, ne_eqb, new_state, none-some, nothing_given, option_map, replica_at, slice_get}
use Rattle.mr_settle.proofs.Names.{slice_get_within, slice_set, stop_fault}
use Rattle.mr_replica.specs.declared.event.Event.{Event as ReplicaEvent}
use Rattle.mr_settle.proofs.AdmitLemmas.{next_admitted, replays_more}
use Rattle.mr_settle.proofs.PoolLemmas.{nothing_told, tells_on}
use Rattle.mr_settle.proofs.ProgressLemmas.{map_there}
use Rattle.mr_settle.proofs.ListLemmas.{some_one, get_set, get_other, split_at, get_all}
use Rattle.mr_settle.proofs.NamedLemmas.{IsNamed, named, one_ask, one_record, one_receipt}
use Rattle.mr_settle.proofs.MoveLemmas.{Turns, turns}
use Rattle.mr_settle.proofs.LogLemmas.{only_on, log_with, log_without}

-- ---- what was given

module _ {K : Type 0} where
  pub tell_on : (w w' : WorldView K) (old new : GivenNumbers) → Grew w.asks w'.asks → Grew w.records w'.records → Grew w.receipts w'.receipts → TellAll w old → NotesNewest old w' new → TellAll w' new
  tell_on w w' old new asks records receipts tells notes = grind (arith, tells_on, one_ask, one_record, one_receipt)

  pub tell_nothing : (w : WorldView K) → w.asks ≡ [] → w.records ≡ [] → w.receipts ≡ [] → TellAll w nothing_given
  tell_nothing w asks records receipts = grind (arith, nothing_told, one_ask, one_record, one_receipt)

  -- ---- ids

  -- ends at two places have two ids
  pub other_id : (ends : List (State K)) (i j : ℕ) (s t : State K) → AreDistinct ends → slice_get ends i ≡ Some s → slice_get ends j ≡ Some t → j ≢ i → t.id ≢ s.id
  other_id [] i j s t distinct is jt ne = absurd (none-some s is)
  other_id (x ∷ xs) zero zero s t distinct is jt ne = absurd (ne refl)
  other_id (x ∷ xs) zero (suc j) s t distinct is jt ne =
      let first : x ≡ s = some_one x s (Some x) refl is in
      let apart = get_all (λ (z : State K). x.id ≢ z.id) xs j t (AllPairs-head (λ (a b : State K). a.id ≢ b.id) x xs distinct) jt in
      λ same. apart (ap (λ (z : State K). z.id) first ∙ sym same)
  other_id (x ∷ xs) (suc i) zero s t distinct is jt ne =
      let first : x ≡ t = some_one x t (Some x) refl jt in
      let apart = get_all (λ (z : State K). x.id ≢ z.id) xs i s (AllPairs-head (λ (a b : State K). a.id ≢ b.id) x xs distinct) is in
      λ same. apart (ap (λ (z : State K). z.id) first ∙ same)
  other_id (x ∷ xs) (suc i) (suc j) s t distinct is jt ne =
      other_id xs i j s t (AllPairs-tail (λ (a b : State K). a.id ≢ b.id) x xs distinct) is jt (λ e. ne (ap suc e))

-- ---- the act asks for something where the event happens

happened_asks : {K : Type 0} (form : Form K) (w w' : WorldView K) (e : Event Mail) (answer : Answer) → Happens form w e answer w' → is_none (asked_in w e.act) ≡ false
happened_asks form w w' e answer h = ap (λ (o : Option Task). is_none o) h.asks

module _ {K : Type 0} (form : Form K) where
  pub leads_on : (w now new : WorldView K) (events : List (Event Mail)) (e : Event Mail) (answer : Answer) → Leads form w events now → Happens form now e answer new → Leads form w (events ++ e ∷ []) new
  leads_on w now new [] e answer h happens = (new, (answer, subst (λ (v : WorldView K). Happens form v e answer new) h happens), refl)
  leads_on w now new (x ∷ events) e answer h happens = (h.0, h.1, leads_on h.0 now new events e answer h.2 happens)

  is_of_on : (ends : List (State K)) (w w' : WorldView K) (e : Event Mail) (answer : Answer) → IsWorldOf form ends w → Happens form w e answer w' → IsWorldOf form ends w'
  is_of_on ends w w' e answer of happens = record {
    start = of.start;
    is_start = of.is_start;
    events = of.events ++ e ∷ [];
    leads = leads_on of.start w w' of.events e answer of.leads happens;
  }

module _ {K : Type 0} (form : Form K) (stable : IsByMeaning form) where
  -- the end whose turn it is admits the next event of its log
  admits_next : (w w' : WorldView K) (end : State K) (position : ℕ) (e : ReplicaEvent) (answer : Answer)
      → IsItsLog form end → IsAt form w end position → slice_get end.log position ≡ Some e → (t : Turns form w end.id e answer w') → (told : Reply) × (t.outcome ≡ Ok told)
  admits_next w w' end position e answer its at is_e t =
      let parts = split_at end.log position e is_e in
      let whole = subst (λ (log : List ReplicaEvent). Replays form end.id end.filter end.event_limit log end) parts.1 its in
      let before : t.before ≡ at.replica = some_one t.before at.replica (replica_at w.members end.id) t.was at.there in
      next_admitted form stable end.id end.filter end.event_limit (take position end.log) parts.0 e end at.replica t.after t.outcome whole at.replays t.has_memory
      (subst (λ (s : State K). Steps form s e t.outcome t.after) before t.steps)

  -- it has one more event of its log then
  turned : (w w' : WorldView K) (end : State K) (position : ℕ) (e : ReplicaEvent) (we : Event Mail) (answer : Answer)
      → IsItsLog form end → IsAt form w end position → slice_get end.log position ≡ Some e → IsNamed w end.id e we → OnlyAdmits w → Happens form w we answer w' → IsAt form w' end (position + 1)
  turned w w' end position e we answer its at is_e named only happens =
      let t = turns form w w' end.id e we answer named happens in
      let parts = split_at end.log position e is_e in
      let before : t.before ≡ at.replica = some_one t.before at.replica (replica_at w.members end.id) t.was at.there in
      let steps = subst (λ (s : State K). Steps form s e t.outcome t.after) before t.steps in
      let admitted = admits_next w w' end position e answer its at is_e t in
      let next : suc position ≡ position + 1 = omega arith in
      let first : take (position + 1) end.log ≡ take position end.log ++ e ∷ [] = ap (λ (n : ℕ). take n end.log) (sym next) ∙ parts.2 in
      let low = slice_get_within end.log position e is_e in
      record {
        replica = t.after;
        there = t.is;
        within = omega (arith, low);
        log =
            log_with w w' t.asks t.records t.receipts we answer happens.notes only (happened_asks form w w' we answer happens) end.id e admitted.0 named.is_for named.asks
            (t.answer_is ∙ ap (λ (o : Result Reply Refusal). Stepped o) admitted.1)
            ∙ ap (λ (log : List ReplicaEvent). log ++ e ∷ []) at.log ∙ sym first;
        replays = subst (λ (log : List ReplicaEvent). Replays form end.id end.filter end.event_limit log t.after) (sym first)
            (replays_more form end.id end.filter end.event_limit (take position end.log) e at.replica t.after at.replays
            (admitted.0, subst (λ (o : Result Reply Refusal). Steps form at.replica e o t.after) admitted.1 steps));
      }

  -- the others have what they had
  rested : (w w' : WorldView K) (end other : State K) (position : ℕ) (e : ReplicaEvent) (we : Event Mail) (answer : Answer)
      → other.id ≢ end.id → IsAt form w other position → IsNamed w end.id e we → OnlyAdmits w → Happens form w we answer w' → IsAt form w' other position
  rested w w' end other position e we answer ne at named only happens =
      let t = turns form w w' end.id e we answer named happens in
      record {
        replica = at.replica;
        there = t.others other.id at.replica ne at.there;
        within = at.within;
        log = log_without w w' t.asks t.records t.receipts we answer happens.notes only (happened_asks form w w' we answer happens) other.id (λ is. ne (is ∙ named.is_for)) ∙ at.log;
        replays = at.replays;
      }

  -- one event more is done
  pub goes_on : (ends : List (State K)) (w w' : WorldView K) (given : GivenNumbers) (done : List ℕ) (place position : ℕ) (we : Event Mail) (end : State K) (e : ReplicaEvent)
      → AreDistinct ends → IsItsLog form end → IsUnderWay form ends w done → TellAll w given → IsNext ends done place end position e → IsNamed w end.id e we → HappensSo form w we w'
      → IsUnderWay form ends w' (slice_set done place (position + 1))
  goes_on ends w w' given done place position we end e distinct its way tells next named happens = record {
    is_of = is_of_on form ends w w' we happens.0 way.is_of happens.1;
    ids = happens.1.becomes.ids ∙ way.ids;
    only =
        only_on w w' t.asks t.records t.receipts we happens.0 happens.1.notes way.only (happened_asks form w w' we happens.0 happens.1) end.id e told.0 named.is_for named.asks
        (t.answer_is ∙ ap (λ (o : Result Reply Refusal). Stepped o) told.1);
    as_long = length-set done place (position + 1) ∙ way.as_long;
    each = each;
  }
    where
      at : IsAt form w end position
      at = way.each place end position next.end_is next.done_is

      t : Turns form w end.id e happens.0 w'
      t = turns form w w' end.id e we happens.0 named happens.1

      told : (told : Reply) × (t.outcome ≡ Ok told)
      told = admits_next w w' end position e happens.0 its at next.event_is t

      by : (j : ℕ) (other : State K) (p : ℕ) → (j ≡ place) ⊎ (j ≢ place) → slice_get ends j ≡ Some other → slice_get (slice_set done place (position + 1)) j ≡ Some p → IsAt form w' other p
      by j other p (inl same) is_other is_p =
          let mine : end ≡ other = some_one end other (slice_get ends j) (ap (slice_get ends) same ∙ next.end_is) is_other in
          let number : position + 1 ≡ p = some_one (position + 1) p (slice_get (slice_set done place (position + 1)) j) (ap (slice_get (slice_set done place (position + 1))) same ∙ get_set done place (position + 1) (slice_get_within done place position next.done_is)) is_p in
          subst (λ (n : ℕ). IsAt form w' other n) number
          (subst (λ (s : State K). IsAt form w' s (position + 1)) mine
          (turned w w' end position e we happens.0 its at next.event_is named way.only happens.1))
      by j other p (inr ne) is_other is_p =
          rested w w' end other p e we happens.0 (other_id ends place j end other distinct next.end_is is_other ne)
          (way.each j other p is_other (sym (get_other done place j (position + 1) ne) ∙ is_p)) named way.only happens.1

      each : (j : ℕ) (other : State K) (p : ℕ) → slice_get ends j ≡ Some other → slice_get (slice_set done place (position + 1)) j ≡ Some p → IsAt form w' other p
      each j other p is_other is_p = by j other p (cases_eq j place) is_other is_p

  -- so do the numbers
  pub tells_after : (ends : List (State K)) (w w' : WorldView K) (old new : GivenNumbers) (done : List ℕ) (place position : ℕ) (we : Event Mail) (end : State K) (e : ReplicaEvent)
      → IsUnderWay form ends w done → TellAll w old → IsNext ends done place end position e → IsNamed w end.id e we → HappensSo form w we w' → NotesNewest old w' new → TellAll w' new
  tells_after ends w w' old new done place position we end e way tells next named happens notes =
      let at = way.each place end position next.end_is next.done_is in
      let t = turns form w w' end.id e we happens.0 named happens.1 in
      tell_on w w' old new t.asks t.records t.receipts tells notes

  pub ready_goes_on : (ends : List (State K)) (w w' : WorldView K) (given : GivenNumbers) (done : List ℕ) (ready : Ready)
      → AreDistinct ends → IsUnderWay form ends w done → TellAll w given → IsReady form ends given done ready → HappensSo form w ready.event w'
      → IsUnderWay form ends w' (slice_set done ready.place ready.after)
  ready_goes_on ends w w' given done ready distinct way tells is happens =
      subst (λ (n : ℕ). IsUnderWay form ends w' (slice_set done ready.place n)) (sym is.after)
      (goes_on ends w w' given done ready.place is.position ready.event is.end is.event distinct is.its_log way tells is.next (named w given is.end.id is.event ready.event tells is.of_end is.names) happens)

  pub ready_tells : (ends : List (State K)) (w w' : WorldView K) (old new : GivenNumbers) (done : List ℕ) (ready : Ready)
      → IsUnderWay form ends w done → TellAll w old → IsReady form ends old done ready → HappensSo form w ready.event w' → NotesNewest old w' new → TellAll w' new
  ready_tells ends w w' old new done ready way tells is happens notes =
      tells_after ends w w' old new done ready.place is.position ready.event is.end is.event way tells is.next (named w old is.end.id is.event ready.event tells is.of_end is.names) happens notes

-- ---- the next event can happen

named_there : {A B : Type 0} (f : A → B) (o : Option A) (y : B) → option_map f o ≡ Some y → is_none o ≡ false
named_there f o y e = grind arith

goes : {K : Type 0} (w : WorldView K) (e : Event Mail) → is_none (member_at w.members e.replica) ≡ false → is_none (asked_in w e.act) ≡ false → stop_fault w e ≡ None
goes w e there asks = rw (there, asks) refl

module _ {K : Type 0} (form : Form K) where
  pub may_happen : (ends : List (State K)) (w : WorldView K) (given : GivenNumbers) (done : List ℕ) (ready : Ready) → IsUnderWay form ends w done → TellAll w given → IsReady form ends given done ready → stop_fault w ready.event ≡ None
  may_happen ends w given done ready way tells is =
      let by = named w given is.end.id is.event ready.event tells is.of_end is.names in
      let at = way.each ready.place is.end is.position is.next.end_is is.next.done_is in
      let there = named_there (λ (m : MemberView K). m.replica) (member_at w.members is.end.id) at.replica at.there in
      goes w ready.event (ap (λ (r : ℕ). is_none (member_at w.members r)) by.is_for ∙ there) (ap is_none by.asks)

  -- the place is one of the ends, and of how far they have come
  pub ready_among : (ends : List (State K)) (given : GivenNumbers) (done : List ℕ) (ready : Ready) → IsReady form ends given done ready → ready.place < length ends
  ready_among ends given done ready is = slice_get_within ends ready.place is.end is.next.end_is

  pub ready_in_progress : (ends : List (State K)) (given : GivenNumbers) (progress : List Progress) (ready : Ready) → IsReady form ends given (done_of progress) ready → ready.place < length progress
  ready_in_progress ends given progress ready is = let p = map_there (λ (p : Progress). p.done) progress ready.place is.position is.next.done_is in slice_get_within progress ready.place p.0 p.1

-- ---- the beginning

fresh_as : {K : Type 0} (s : State K) (id jd : ℕ) (filter gilter : List ClauseParts) (limit mimit : ℕ) → id ≡ jd → filter ≡ gilter → limit ≡ mimit → s ≡ new_state id filter limit s.knowledge → s ≡ new_state jd gilter mimit s.knowledge
fresh_as s id jd filter gilter limit mimit a b c e = e ∙ (λ i. new_state (a i) (b i) (c i) s.knowledge)

module _ {K : Type 0} (form : Form K) where
  -- a replica of the world is there for each end, and is fresh
  pub made_there : (ends : List (State K)) (specs : List Spec) (members : List (MemberView K)) → AllZip IsSpecOf ends specs → AllZip (IsMadeOf form) specs members → AreDistinct ends → (i : ℕ) (end : State K) → slice_get ends i ≡ Some end
      → (s : State K) × (replica_at members end.id ≡ Some s) × IsFresh form end.id end.filter end.event_limit s
  made_there [] specs members are made distinct i end is = absurd (cc (is))
  made_there (x ∷ xs) [] members are made distinct i end is = absurd are
  made_there (x ∷ xs) (p ∷ ps) [] are made distinct i end is = absurd made
  made_there (x ∷ xs) (p ∷ ps) (m ∷ ms) are made distinct zero end is =
      let mine : x ≡ end = some_one x end (Some x) refl is in
      let id : m.replica.id ≡ end.id = ap (λ (s : State K). s.id) made.0.replica.is_empty ∙ are.0.id ∙ ap (λ (s : State K). s.id) mine in
      let here : (m.replica.id == end.id) ≡ true = eq-eqb m.replica.id end.id id in
      let filter : p.filter ≡ end.filter = are.0.filter ∙ ap (λ (s : State K). s.filter) mine in
      let limit : p.event_limit ≡ end.event_limit = are.0.event_limit ∙ ap (λ (s : State K). s.event_limit) mine in
      let spec_id : p.id ≡ end.id = are.0.id ∙ ap (λ (s : State K). s.id) mine in
      (m.replica, rw here refl, record { is_empty = fresh_as m.replica p.id end.id p.filter end.filter p.event_limit end.event_limit spec_id filter limit made.0.replica.is_empty; knows_nothing = made.0.replica.knows_nothing })
  made_there (x ∷ xs) (p ∷ ps) (m ∷ ms) are made distinct (suc i) end is =
      let rest = made_there xs ps ms are.1 made.1 (AllPairs-tail (λ (a b : State K). a.id ≢ b.id) x xs distinct) i end is in
      let ne = get_all (λ (z : State K). x.id ≢ z.id) xs i end (AllPairs-head (λ (a b : State K). a.id ≢ b.id) x xs distinct) is in
      let id : m.replica.id ≡ x.id = ap (λ (s : State K). s.id) made.0.replica.is_empty ∙ are.0.id in
      let other : (m.replica.id == end.id) ≡ false = ne_eqb m.replica.id end.id (λ same. ne (sym id ∙ same)) in
      (rest.0, rw other rest.1, rest.2)

  pub made_ids : (ends : List (State K)) (specs : List Spec) (members : List (MemberView K)) → AllZip IsSpecOf ends specs → AllZip (IsMadeOf form) specs members → ids_of members ≡ map (λ (end : State K). end.id) ends
  made_ids [] [] [] are made = refl
  made_ids [] [] (m ∷ ms) are made = absurd made
  made_ids [] (p ∷ ps) members are made = absurd are
  made_ids (x ∷ xs) [] members are made = absurd are
  made_ids (x ∷ xs) (p ∷ ps) [] are made = absurd made
  made_ids (x ∷ xs) (p ∷ ps) (m ∷ ms) are made = grind (arith, made_ids xs ps ms are.1 made.1)

  -- nothing is done
  pub begins : (ends : List (State K)) (w : WorldView K) (done : List ℕ) → AreDistinct ends → IsStartOf form ends w → length done ≡ length ends → ((i p : ℕ) → slice_get done i ≡ Some p → p ≡ 0) → IsUnderWay form ends w done
  begins ends w done distinct start as_long zeros = record {
    is_of = record { start = w; is_start = start; events = []; leads = refl };
    ids = made_ids ends start.specs w.members start.are start.made.members;
    only = subst (All (λ x. IsSome (admitted_at w x.event.replica x))) (sym start.made.answers) (All-nil (λ x. IsSome (admitted_at w x.event.replica x)));
    as_long = as_long;
    each = λ i end p is is_p.
        let there = made_there ends start.specs w.members start.are start.made.members distinct i end is in
        subst (λ (n : ℕ). IsAt form w end n) (sym (zeros i p is_p)) (record {
          replica = there.0;
          there = there.1;
          within = omega arith;
          log = nothing_yet end.id;
          replays = record { fresh = there.0; is_fresh = there.2; admits = refl };
        });
  }
    where
      nothing_yet : (q : ℕ) → log_in w q ≡ []
      nothing_yet q = rw start.made.answers refl

-- ---- what is left

-- one event more is done, and one less is left
pub nearer : {K : Type 0} (ends : List (State K)) (done : List ℕ) (place position : ℕ) (end : State K) → slice_get ends place ≡ Some end → slice_get done place ≡ Some position → position < length end.log
    → left_over ends (slice_set done place (position + 1)) < left_over ends done
nearer [] done place position end is is_p low = absurd (cc (is))
nearer (x ∷ xs) [] place position end is is_p low = absurd (cc (is_p))
nearer (x ∷ xs) (d ∷ ds) zero position end is is_p low = grind (arith, some_one)
nearer (x ∷ xs) (d ∷ ds) (suc place) position end is is_p low = let rest = nearer xs ds place position end is is_p low in omega (arith, rest)

pub ready_nearer : {K : Type 0} (form : Form K) (ends : List (State K)) (given : GivenNumbers) (done : List ℕ) (ready : Ready) → IsReady form ends given done ready → left_over ends (slice_set done ready.place ready.after) < left_over ends done
ready_nearer form ends given done ready is = grind (arith, nearer, slice_get_within)
