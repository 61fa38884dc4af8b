-- Letter by letter: the log, and where a machine stops.
use Rattle.std.proofs.Common.{◌≡◌, ⊎_elim, ℕ, Bool, true, List, [], ◌∷◌, ◌++◌, length, Option, Some, None, Result, Ok, Err, refl, sym, ap, subst, ◌∙◌, append_assoc}
use Rattle.mr_kept_node.proofs.Names.{Declined, DeviceOf, EndsUnkept, Event, Form, Goes, Kept, KeptFault, KeptMachine, MatchOption, OutOfMemory, Passed, Refusal}
use Rattle.mr_kept_node.proofs.Names.{Replays, Reply, Sender, State, Stopped, Takes, TakesBy, admitted_of, append-nil, head_of, log_of, nothing_waits}
use Rattle.mr_kept_node.proofs.Names.{replica_of}
use Rattle.mr_kept_node.proofs.Stepping.{Ready, declined_same, kept_log, passed, ready_declined, ready_kept, rests, stopped_log}

-- the other case stays, and this one becomes that
match_on : (A B C : Type 0) (o : Option KeptFault) → (B → C) → MatchOption o A (λ _. B) → MatchOption o A (λ _. C)
match_on A B C None from h = h
match_on A B C (Some fault) from h = from h

match_none : (A B : Type 0) (o : Option KeptFault) → o ≡ None → A → MatchOption o A (λ _. B)
match_none A B o is a = subst (λ (z : Option KeptFault). MatchOption z A (λ _. B)) (sym is) a

match_some : (A B : Type 0) (o : Option KeptFault) (fault : KeptFault) → o ≡ Some fault → B → MatchOption o A (λ _. B)
match_some A B o fault is b = subst (λ (z : Option KeptFault). MatchOption z A (λ _. B)) (sym is) b

-- one more in front
ends_later : (x : Passed) (xs : List Passed) (unkept : List Event) → EndsUnkept xs unkept → EndsUnkept (x ∷ xs) unkept
ends_later x xs unkept h = record {
  before = x ∷ h.before;
  last = h.last;
  behind = h.behind;
  in_order = ap (λ (l : List Passed). x ∷ l) h.in_order;
  unkept_is = h.unkept_is;
  refused = h.refused;
}

module _ {K D V : Type 0} where
  -- all is kept and told
  abbrev pub AllDone : List Event → KeptMachine K D V → Type 0
  AllDone unkept m = (unkept ≡ []) × (nothing_waits m.journaled ≡ true) × (m.told ≡ length (replica_of m.journaled).feed)

  -- what the log has got by these exchanges
  pub record LogRan (m : KeptMachine K D V) (xs : List Passed) (n : KeptMachine K D V) : Type 0 where
    pub unkept : List Event
    pub log : log_of n ≡ (log_of m ++ admitted_of xs) ++ unkept
    pub head : head_of n.journaled ≡ head_of m.journaled
    pub ends : MatchOption n.fault (AllDone unkept n) (λ _. EndsUnkept xs unkept)

  none_ran : (m n : KeptMachine K D V) → Ready m → n ≡ m → LogRan m [] n
  none_ran m n ready same = subst (λ (z : KeptMachine K D V). LogRan m [] z) (sym same) (record {
    unkept = [];
    log = sym (append-nil (log_of m)) ∙ sym (append-nil (log_of m ++ []));
    head = refl;
    ends = match_none _ _ m.fault ready.goes_on (refl, ready.none_waits, ready.told);
  })

module _ {K D V : Type 0} (form : Form K) (device : DeviceOf D) where
  kept_ran : (m t n : KeptMachine K D V) (xs : List Passed) (sender : Sender) (letter : Event) (reply : Reply) → Kept form device m letter reply t → LogRan t xs n
      → LogRan m (passed sender letter (Ok reply) ∷ xs) n
  kept_ran m t n xs sender letter reply h rest = record {
    unkept = rest.unkept;
    log = rest.log ∙ ap (λ (l : List Event). (l ++ admitted_of xs) ++ rest.unkept) (kept_log form device m t letter reply h)
        ∙ ap (λ (l : List Event). l ++ rest.unkept) (append_assoc (log_of m) (letter ∷ []) (admitted_of xs));
    head = rest.head ∙ h.head;
    ends = match_on _ _ _ n.fault (ends_later (passed sender letter (Ok reply)) xs rest.unkept) rest.ends;
  }

  declined_ran : (m t n : KeptMachine K D V) (xs : List Passed) (sender : Sender) (letter : Event) (e : Refusal) → Declined form device m letter e t → LogRan t xs n
      → LogRan m (passed sender letter (Err e) ∷ xs) n
  declined_ran m t n xs sender letter e h rest = record {
    unkept = rest.unkept;
    log = rest.log ∙ ap (λ (s : State K). (s.log ++ admitted_of xs) ++ rest.unkept) (declined_same form device m t letter e h);
    head = rest.head ∙ h.turned.journal.head;
    ends = match_on _ _ _ n.fault (ends_later (passed sender letter (Err e)) xs rest.unkept) rest.ends;
  }

  stopped_ran : (m t n : KeptMachine K D V) (xs : List Passed) (sender : Sender) (letter : Event) (e : Refusal) → e ≡ OutOfMemory → Stopped form device m letter t
      → Replays (Takes form device) t xs n → LogRan m (passed sender letter (Err e) ∷ xs) n
  stopped_ran m t n xs sender letter e is h replays =
      let rest = rests form device t n xs h.fault h.stops replays in
      record {
        unkept = letter ∷ [];
        log = ap log_of rest.same ∙ stopped_log form device m t letter h
            ∙ ap (λ (l : List Event). l ++ letter ∷ []) (sym (append-nil (log_of m)) ∙ ap (λ (l : List Event). log_of m ++ l) (sym rest.none_admitted));
        head = ap (λ (z : KeptMachine K D V). head_of z.journaled) rest.same ∙ h.head ∙ h.asked.journal.head;
        ends = match_some _ _ n.fault h.fault (ap (λ (z : KeptMachine K D V). z.fault) rest.same ∙ h.stops) (record {
          before = [];
          last = passed sender letter (Err e);
          behind = xs;
          in_order = refl;
          unkept_is = refl;
          refused = (ap (λ (refusal : Refusal). Err refusal) is, rest.refused);
        });
      }

  one_ran : (m t n : KeptMachine K D V) (xs : List Passed) (sender : Sender) (letter : Event) (answer : Result Reply Refusal) → Ready m → Goes form device m letter answer t
      → Replays (Takes form device) t xs n → (Ready t → LogRan t xs n) → LogRan m (passed sender letter answer ∷ xs) n
  one_ran m t n xs sender letter (Ok reply) ready h replays rest =
      kept_ran m t n xs sender letter reply h (rest (ready_kept form device m t letter reply h))
  one_ran m t n xs sender letter (Err e) ready h replays rest = ⊎_elim
      (λ same. declined_ran m t n xs sender letter e same (rest (ready_declined form device m t letter e ready same)))
      (λ stop. stopped_ran m t n xs sender letter e stop.0 stop.1 replays)
      h

  pub log_ran : (m n : KeptMachine K D V) (xs : List Passed) → Ready m → Replays (Takes form device) m xs n → LogRan m xs n
  log_ran m n [] ready h = none_ran m n ready h
  log_ran m n (x ∷ xs) ready h =
      let one = subst (λ (o : Option KeptFault). TakesBy form device o m x.letter x.answer h.0) ready.goes_on h.1 in
      one_ran m h.0 n xs x.sender x.letter x.answer ready one h.2 (λ on. log_ran h.0 n xs on h.2)
