-- What the history says of logs, as it grows by one event.
use Rattle.std.proofs.Common.{◌≡◌, ◌≢◌, ◌==◌, refl, sym, ap, subst, ◌∙◌, ℕ, Bool, true, false, cond, List, [], ◌∷◌, ◌++◌, Option, Some, None, Ok, eq-eqb, append-nil, arith}
use Rattle.mr_settle.proofs.Names.{Act, All, All-head, All-push, All-tail, All-weaker, Answer, Answered, Event, Grew, IsSome, Mail, OnlyAdmits, Reply}
use Rattle.mr_settle.proofs.Names.{Stepped, Task, WorldView, admitted, admitted_at, answered, answering, asked_in, cons_option, delivering, filter_map}
use Rattle.mr_settle.proofs.Names.{filter_map-append, is_none, is_some, log_in, ne_eqb, numbered, option_and_then, option_map, receiving, releasing}
use Rattle.mr_model.specs.declared.event.Act.TheVariants as act
use Rattle.mr_replica.specs.declared.event.Event.{Event as ReplicaEvent}
use Rattle.mr_world.specs.declared.task.Task.TheVariants.{Step}
use Rattle.mr_settle.proofs.PoolLemmas.{number_stays}

filter_map-same : {A B : Type 0} (f g : A → Option B) (xs : List A) → All (λ x. f x ≡ g x) xs → filter_map f xs ≡ filter_map g xs
filter_map-same f g [] h = refl
filter_map-same {A} {B} f g (x ∷ xs) h =
    let first : f x ≡ g x = All-head (λ x. f x ≡ g x) x xs h in
    let rest : filter_map f xs ≡ filter_map g xs = filter_map-same f g xs (All-tail (λ x. f x ≡ g x) x xs h) in
    λ i. cons_option (first i) (rest i)

none_mapped : {A B : Type 0} (f : A → B) (o : Option A) → is_none (option_map f o) ≡ is_none o
none_mapped f o = grind arith

-- what is made of a pool's element stays, where it was there
made_still : {A B : Type 0} (f : A → B) (xs ys : List A) (n : ℕ) → Grew xs ys → is_none (option_map f (numbered xs n)) ≡ false → option_map f (numbered ys n) ≡ option_map f (numbered xs n)
made_still f xs ys n grew there = ap (option_map f) (number_stays xs ys n grew (sym (none_mapped f (numbered xs n)) ∙ there))

-- what was admitted was asked for
was_asked : (mine : Bool) (answer : Answer) (o : Option Task) → IsSome (cond mine (option_and_then (admitted answer) o) None) → is_none o ≡ false
was_asked mine answer o is = grind arith

module _ {K : Type 0} (w w' : WorldView K) (asks : Grew w.asks w'.asks) (records : Grew w.records w'.records) (receipts : Grew w.receipts w'.receipts) where
  -- an act that asked for something asks for the same
  asks_still : (a : Act Mail) → is_none (asked_in w a) ≡ false → asked_in w' a ≡ asked_in w a
  asks_still (act.Receive n) there = made_still receiving w.records w'.records n records there
  asks_still (act.DeliverPart n bytes) there = made_still (delivering bytes) w.records w'.records n records there
  asks_still (act.Answer n) there = made_still answering w.asks w'.asks n asks there
  asks_still (act.Release n) there = made_still releasing w.receipts w'.receipts n receipts there
  asks_still a there = grind (arith, made_still)

  -- of an event that was admitted, each log has what it had
  admitted_still : (q : ℕ) (x : Answered) → IsSome (admitted_at w x.event.replica x) → admitted_at w' q x ≡ admitted_at w q x
  admitted_still q x is = grind (arith, asks_still, was_asked)

  -- the history grows by one event
  module _ (e : Event Mail) (answer : Answer) (grows : w'.answers ≡ w.answers ++ answered e answer ∷ []) (only : OnlyAdmits w) (here : is_none (asked_in w e.act) ≡ false) where
    log_grows : (q : ℕ) → log_in w' q ≡ log_in w q ++ filter_map (admitted_at w' q) (answered e answer ∷ [])
    log_grows q = grind (arith, filter_map-append, filter_map-same, All-weaker, admitted_still)

    -- the replica was asked for this, and told something
    module _ (r : ℕ) (asked : ReplicaEvent) (told : Reply) (is_for : e.replica ≡ r) (is : asked_in w e.act ≡ Some (Step asked)) (is_answer : answer ≡ Stepped (Ok told)) where
      one_more : admitted_at w' r (answered e answer) ≡ Some asked
      one_more = let mine : (e.replica == r) ≡ true = eq-eqb e.replica r is_for in rw (mine, is_answer) (ap (option_and_then (admitted (Stepped (Ok told)))) (asks_still e.act here ∙ is))

      -- the admitted event is behind the others of its replica
      pub log_with : log_in w' r ≡ log_in w r ++ asked ∷ []
      log_with = grind (arith, one_more, log_grows)

      -- and nothing but admitted events has happened
      pub only_on : OnlyAdmits w'
      only_on = subst (All (λ x. IsSome (admitted_at w' x.event.replica x))) (sym grows)
          (All-push (λ x. IsSome (admitted_at w' x.event.replica x)) w.answers (answered e answer)
          (All-weaker (λ x. IsSome (admitted_at w x.event.replica x)) (λ x. IsSome (admitted_at w' x.event.replica x)) (λ x is_admitted. ap (λ (o : Option ReplicaEvent). is_some o) (admitted_still x.event.replica x is_admitted) ∙ is_admitted) w.answers only)
          (subst (λ (q : ℕ). IsSome (admitted_at w' q (answered e answer))) (sym is_for) (ap (λ (o : Option ReplicaEvent). is_some o) one_more)))

    -- the other logs stay
    pub log_without : (q : ℕ) → q ≢ e.replica → log_in w' q ≡ log_in w q
    log_without q other = grind (arith, ne_eqb, log_grows, append-nil)
