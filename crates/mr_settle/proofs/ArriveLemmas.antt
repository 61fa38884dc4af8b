-- Where no end can go on: all logs are done, or the history is stuck.
use Rattle.std.proofs.Common.{◌≡◌, ◌≤◌, ◌<◌, refl, sym, ap, subst, ◌∙◌, ◌+◌, cond, nat_lt, arith, ℕ, zero, suc, Bool, true, false, List, [], ◌∷◌, ◌++◌, length, take, drop, Option, Some, None, Result, IfOk, inl, inr, below_more, le_of_eq}
use Rattle.mr_settle.proofs.Names.{Act, All, AreNoLower, Event, Explains, FindsLeft, FindsLeftAt, FindsLeftTo, FindsReady, Form, GivenNumbers, HasLeft, In}
use Rattle.mr_settle.proofs.Names.{IsByMeaning, IsFirstReady, IsItsLog, IsLeftAt, IsNext, IsOneInWorld, IsReady, IsUnderWay, Mail, Names, Progress, Ready}
use Rattle.mr_settle.proofs.Names.{Replays, Rests, State, TellAll, WorldView, alike_replays, cases_lt, done_of, length-take-le, log_in, lower_of, ltb-false}
use Rattle.mr_settle.proofs.Names.{ltb-true, option_map, replica_at, slice_get, slice_get-map, slice_get_within, take-append-drop, take_all, ◌does◌}
use Rattle.mr_replica.specs.declared.event.Event.{Event as ReplicaEvent}
use Rattle.mr_settle.specs.Stuck.{Waits, IsBehind, HasEventsLeft, IsStuck}
use Rattle.mr_settle.proofs.ListLemmas.{some_one, all_places, get_there, get_all, first_of}

-- ---- what is left of a log

module _ {K : Type 0} where
  at_place : (ends : List (State K)) (other : State K) → In other ends → (i : ℕ) × (slice_get ends i ≡ Some other)
  at_place [] other i = absurd i
  at_place (x ∷ xs) other (inl is) = (0, ap (λ (z : State K). Some z) is)
  at_place (x ∷ xs) other (inr later) = let rest = at_place xs other later in (suc rest.0, rest.1)

  in_place : (ends : List (State K)) (i : ℕ) (s : State K) → slice_get ends i ≡ Some s → In s ends
  in_place [] i s e = absurd (cc (e))
  in_place (x ∷ xs) zero s e = inl (some_one x s (Some x) refl e)
  in_place (x ∷ xs) (suc i) s e = inr (in_place xs i s e)

module _ {K : Type 0} (form : Form K) where
  position_of : (ends : List (State K)) (w : WorldView K) (done : List ℕ) (i : ℕ) (s : State K) → IsUnderWay form ends w done → slice_get ends i ≡ Some s → (p : ℕ) × (slice_get done i ≡ Some p)
  position_of ends w done i s way is = let low = slice_get_within ends i s is in let long = way.as_long in get_there done i (omega (arith, low, long))

  behind : (ends : List (State K)) (w : WorldView K) (given : GivenNumbers) (done : List ℕ) (i : ℕ) (s : State K) → IsUnderWay form ends w done → TellAll w given → FindsReady form ends given done None → slice_get ends i ≡ Some s → IsBehind w s
  behind ends w given done i s way tells rest is =
      let p = position_of ends w done i s way is in
      let at = way.each i s p.0 is p.1 in
      record {
        left = drop p.0 s.log;
        log = sym (take-append-drop p.0 s.log) ∙ ap (λ (log : List ReplicaEvent). log ++ drop p.0 s.log) (sym at.log);
        waits = waits p.0 p.1 (drop p.0 s.log) refl;
      }
    where
      waits : (p : ℕ) → slice_get done i ≡ Some p → (left : List ReplicaEvent) → drop p s.log ≡ left → Waits w left
      waits p is_p [] e = tt
      waits p is_p (x ∷ later) e = λ has. rest i s p x (record { end_is = is; done_is = is_p; event_is = first_of s.log p x later e }) w.asks w.records w.receipts tells has.0 has.1

  -- a history that cannot go on is stuck
  pub stuck : (ends : List (State K)) (w : WorldView K) (given : GivenNumbers) (done : List ℕ) (found : ℕ × ℕ) → IsUnderWay form ends w done → TellAll w given → FindsReady form ends given done None → FindsLeft ends done (Some found) → IsStuck form ends found.0 found.1
  stuck ends w given done found way tells rest left = record {
    world = w;
    is_of = way.is_of;
    only = way.only;
    behind = all_places (IsBehind w) ends (λ i s is. behind ends w given done i s way tells rest is);
    first = record {
      end = left.0.end;
      among = in_place ends left.0.place left.0.end left.0.is.end_is;
      id = left.0.id;
      has_left = has left.0.place left.0.end left.0.position left.0.is;
      next = left.0.next ∙ ap (λ (n : ℕ). n + 1) (sym (ap (λ (r : ℕ). length (log_in w r)) (sym left.0.id) ∙ count left.0.place left.0.end left.0.position left.0.is.end_is left.0.is.done_is));
      lowest = lowest;
    };
  }
    where
      count : (i : ℕ) (s : State K) (p : ℕ) → slice_get ends i ≡ Some s → slice_get done i ≡ Some p → length (log_in w s.id) ≡ p
      count i s p is is_p = let at = way.each i s p is is_p in ap (λ (log : List ReplicaEvent). length log) at.log ∙ length-take-le p s.log at.within

      has : (i : ℕ) (s : State K) (p : ℕ) → IsLeftAt ends done i s p → HasEventsLeft w s
      has i s p is = subst (λ (n : ℕ). n < length s.log) (sym (count i s p is.end_is is.done_is)) is.left

      lowest : (other : State K) → In other ends → HasEventsLeft w other → found.0 ≤ other.id
      lowest other i has_left =
          let place = at_place ends other i in
          let p = position_of ends w done place.0 other way place.1 in
          left.1 place.0 other p.0 (slice_get_within ends place.0 other place.1) (record { end_is = place.1; done_is = p.1; left = subst (λ (n : ℕ). n < length other.log) (count place.0 other p.0 place.1 p.1) has_left })

module _ {K : Type 0} (form : Form K) (stable : IsByMeaning form) where
  -- all logs are done
  pub explained : (ends : List (State K)) (w : WorldView K) (done : List ℕ) → IsUnderWay form ends w done → FindsLeft ends done None → All (IsOneInWorld form w) ends → Explains form ends w
  explained ends w done way none one = record {
    is_of = way.is_of;
    ids = way.ids;
    logs = all_places (λ (end : State K). log_in w end.id ≡ end.log) ends (λ i s is. logs i s (position_of form ends w done i s way is) is);
    same = all_places (λ (end : State K). replica_at w.members end.id ≡ Some end) ends (λ i s is. same i s (position_of form ends w done i s way is) is);
    only = way.only;
  }
    where
      whole : (i : ℕ) (s : State K) (p : ℕ) → slice_get ends i ≡ Some s → slice_get done i ≡ Some p → take p s.log ≡ s.log
      whole i s p is is_p =
          let none_left : (p < length s.log) → ⊥ = λ low. none i s p (slice_get_within ends i s is) (record { end_is = is; done_is = is_p; left = low }) in
          take_all p s.log (omega (arith, none_left))

      logs : (i : ℕ) (s : State K) → (p : ℕ) × (slice_get done i ≡ Some p) → slice_get ends i ≡ Some s → log_in w s.id ≡ s.log
      logs i s p is = (way.each i s p.0 is p.1).log ∙ whole i s p.0 is p.1

      same : (i : ℕ) (s : State K) → (p : ℕ) × (slice_get done i ≡ Some p) → slice_get ends i ≡ Some s → replica_at w.members s.id ≡ Some s
      same i s p is =
          let at = way.each i s p.0 is p.1 in
          let replays = subst (λ (log : List ReplicaEvent). Replays form s.id s.filter s.event_limit log at.replica) (whole i s p.0 is p.1) at.replays in
          let mine = get_all (IsOneInWorld form w) ends i s one is in
          let alike = alike_replays form stable s.id s.filter s.event_limit s.log at.replica s replays mine.0 in
          at.there ∙ ap (λ (z : State K). Some z) (mine.1 at.replica at.there alike)

-- ---- what the code finds

module _ {K : Type 0} where
  pub rests_more : (ends : List (State K)) (given : GivenNumbers) (done : List ℕ) (from i : ℕ) → ((place : ℕ) → from ≤ place → place < i → Rests ends given done place) → Rests ends given done i
      → (place : ℕ) → from ≤ place → place < i + 1 → Rests ends given done place
  rests_more ends given done from i before here place low within = below_more (λ n. from ≤ n → Rests ends given done n) i (λ n less high. before n high less) (λ _. here) place within low

  pub next_found : {E : Type 0} (form : Form K) (ends : List (State K)) (given : GivenNumbers) (done : List ℕ) (from : ℕ) → IsFirstReady form ends given done from (length ends) None
      → (r : Result (Option Ready) E) → IfOk r (IsFirstReady form ends given done 0 from) → IfOk r (FindsReady form ends given done)
  next_found form ends given done from first r h = grind (arith, cases_lt, slice_get_within)

module _ {K : Type 0} (form : Form K) where
  -- the same by what was found in an equal list
  pub stuck_at : (ends : List (State K)) (w : WorldView K) (given : GivenNumbers) (done looked : List ℕ) (r n : ℕ) → IsUnderWay form ends w done → TellAll w given → FindsReady form ends given done None → looked ≡ done
      → HasLeft ends looked r n × AreNoLower ends looked (length ends) r → IsStuck form ends r n
  stuck_at ends w given done looked r n way tells rest same left = stuck form ends w given done (r, n) way tells rest (subst (λ (ds : List ℕ). FindsLeft ends ds (Some (r, n))) same left)

-- of what is kept of a place, so many are done
done_there : (progress : List Progress) (place : ℕ) (p : Progress) → slice_get progress place ≡ Some p → slice_get (done_of progress) place ≡ Some p.done
done_there progress place p is = slice_get-map (λ (p : Progress). p.done) progress place ∙ ap (option_map (λ (p : Progress). p.done)) is

module _ {K : Type 0} where
  pub left_found : (ends : List (State K)) (progress : List Progress) (place : ℕ) (end : State K) (p : Progress) → slice_get ends place ≡ Some end → slice_get progress place ≡ Some p → p.done < length end.log → IsLeftAt ends (done_of progress) place end p.done
  left_found ends progress place end p is_end is_p left = record { end_is = is_end; done_is = done_there progress place p is_p; left = left }

  pub left_none : (ends : List (State K)) (progress : List Progress) (place : ℕ) (end : State K) (p : Progress) → slice_get ends place ≡ Some end → slice_get progress place ≡ Some p → length end.log ≤ p.done
      → (other : State K) (position : ℕ) → ¬ IsLeftAt ends (done_of progress) place other position
  left_none ends progress place end p is_end is_p h other position at = grind (arith, some_one, done_there)

  -- ---- how an end is found ready

  next_there : (ends : List (State K)) (progress : List Progress) (place : ℕ) (end : State K) (p : Progress) (e : ReplicaEvent) → slice_get ends place ≡ Some end → slice_get progress place ≡ Some p → slice_get end.log p.done ≡ Some e → IsNext ends (done_of progress) place end p.done e
  next_there ends progress place end p e is_end is_p is_e = record { end_is = is_end; done_is = done_there progress place p is_p; event_is = is_e }

  -- where its next event has no act, it rests
  pub rests_unnamed : (ends : List (State K)) (given : GivenNumbers) (progress : List Progress) (place : ℕ) (end : State K) (p : Progress) (e : ReplicaEvent) → slice_get ends place ≡ Some end → slice_get progress place ≡ Some p
      → slice_get end.log p.done ≡ Some e → Names given e None → Rests ends given (done_of progress) place
  rests_unnamed ends given progress place end p e is_end is_p is_e h other position event next = grind (arith, some_one, done_there)

module _ {K : Type 0} (form : Form K) where
  -- where it has one, it goes on by that
  pub ready_there : (ends : List (State K)) (given : GivenNumbers) (progress : List Progress) (place : ℕ) (end : State K) (p : Progress) (e : ReplicaEvent) (a : Act Mail) (r : ℕ) (we : Event Mail)
      → slice_get ends place ≡ Some end → slice_get progress place ≡ Some p → slice_get end.log p.done ≡ Some e → IsItsLog form end → Names given e (Some a) → r ≡ end.id → we ≡ (r does a)
      → IsReady form ends given (done_of progress) (record { place = place; after = p.done + 1; event = we })
  ready_there ends given progress place end p e a r we is_end is_p is_e its names id is = record {
    end = end;
    position = p.done;
    event = e;
    next = next_there ends progress place end p e is_end is_p is_e;
    after = refl;
    of_end = ap (λ (x : Event Mail). x.replica) is ∙ id;
    names = subst (λ (b : Act Mail). Names given e (Some b)) (sym (ap (λ (x : Event Mail). x.act) is)) names;
    its_log = its;
  }

-- ---- the lowest end with events left

module _ {K : Type 0} (ends : List (State K)) (done : List ℕ) where
  same_id : (i : ℕ) (s t : State K) (p q : ℕ) → IsLeftAt ends done i s p → IsLeftAt ends done i t q → s.id ≡ t.id
  same_id i s t p q at bt = ap (λ (z : State K). z.id) (some_one s t (slice_get ends i) at.end_is bt.end_is)

  no_lower_more : (i r : ℕ) → AreNoLower ends done i r → ((end : State K) (position : ℕ) → IsLeftAt ends done i end position → r ≤ end.id) → AreNoLower ends done (i + 1) r
  no_lower_more i r before here place end position low at = grind (arith, below_more)

  has_here : (i : ℕ) (y : ℕ × ℕ) → FindsLeftAt ends done i (Some y) → HasLeft ends done y.0 y.1
  has_here i y k = record { place = i; end = k.0; position = k.1; is = k.2; id = k.3; next = k.4 }

  here_too : (i : ℕ) (y : ℕ × ℕ) → FindsLeftAt ends done i (Some y) → (end : State K) (position : ℕ) → IsLeftAt ends done i end position → y.0 ≡ end.id
  here_too i y k end position at = sym k.3 ∙ same_id i k.0 end k.1 position k.2 at

  two_left : (i : ℕ) (x y : ℕ × ℕ) (b : Bool) → nat_lt y.0 x.0 ≡ b → FindsLeftTo ends done i (Some x) → FindsLeftAt ends done i (Some y) → FindsLeftTo ends done (i + 1) (Some (cond b y x))
  two_left i x y true is h k =
      let less = ltb-true y.0 x.0 is in (
        has_here i y k,
        no_lower_more i y.0 (λ place end position low at. lower place end position low at (h.1 place end position low at) less) (λ end position at. le_of_eq (here_too i y k end position at)),
      )
    where
      lower : (place : ℕ) (end : State K) (position : ℕ) → place < i → IsLeftAt ends done place end position → x.0 ≤ end.id → y.0 < x.0 → y.0 ≤ end.id
      lower place end position low at a b = omega (arith, a, b)
  two_left i x y false is h k =
      let most = ltb-false y.0 x.0 is in
      (h.0, no_lower_more i x.0 h.1 (λ end position at. (let same = here_too i y k end position at in omega (arith, same, most))))

  pub left_more : (i : ℕ) (a b : Option (ℕ × ℕ)) → FindsLeftTo ends done i a → FindsLeftAt ends done i b → FindsLeftTo ends done (i + 1) (lower_of a b)
  left_more i (Some x) (Some y) h k = two_left i x y (nat_lt y.0 x.0) refl h k
  left_more i (Some x) None h k = (h.0, no_lower_more i x.0 h.1 (λ end position at. absurd (k end position at)))
  left_more i None (Some y) h k =
      (has_here i y k, no_lower_more i y.0 (λ place end position low at. absurd (h place end position low at)) (λ end position at. le_of_eq (here_too i y k end position at)))
  left_more i None None h k = λ place end position low at.
      below_more (λ n. (end : State K) (position : ℕ) → ¬ IsLeftAt ends done n end position) i (λ n less end position at. h n end position less at) k place low end position at

  pub left_upto : (i n : ℕ) (o : Option (ℕ × ℕ)) → n ≤ i → FindsLeftTo ends done i o → FindsLeftTo ends done n o
  left_upto i n o most h = grind arith
