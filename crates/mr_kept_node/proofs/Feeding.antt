-- What was told is the feed of a replica with just the events that were answered.
use Rattle.std.proofs.Common.{⊎_elim, ℕ, Bool, List, [], ◌∷◌, ◌++◌, length, take, Option, Result, Ok, Err, sym, ap, subst, ◌∙◌, append_assoc}
use Rattle.mr_kept_node.proofs.Names.{DeviceOf, Event, Form, Goes, IsFeedOf, IsItsLog, KeptFault, KeptMachine, Passed, Refusal, Replays, Reply, Sender, State, Stopped}
use Rattle.mr_kept_node.proofs.Names.{Takes, TakesBy, admitted_of, append-nil, log_of, replica_of, step_feed, told_of}
use Rattle.std.proofs.Math.Seq.{take-append_seam, take-length}
use Rattle.mr_feed.specs.declared.entry.Entry.{Entry}
use Rattle.mr_replica.proofs.Replaying as replaying
use Rattle.mr_kept_node.proofs.Stepping.{Ready, declined_same, kept_log, passed, ready_declined, ready_kept, rests}

module _ {K D V : Type 0} (form : Form K) where
  -- where all is told, it is the feed of the replica itself
  all_fed : (m : KeptMachine K D V) → Ready m → IsItsLog form (replica_of m.journaled) → IsFeedOf form (log_of m ++ []) (told_of m)
  all_fed m ready its_log =
      let feed : List Entry = (replica_of m.journaled).feed in
      record {
        replica = replica_of m.journaled;
        is_its_log = its_log;
        log_is = sym (append-nil (log_of m));
        feed_is = sym (ap (λ (n : ℕ). take n feed) ready.told ∙ take-length feed);
      }

module _ {K D V : Type 0} (form : Form K) (device : DeviceOf D) where
  -- what came into the feed by a letter that isn't kept is not told
  stopped_fed : (m t : KeptMachine K D V) (letter : Event) → Ready m → IsItsLog form (replica_of m.journaled) → Stopped form device m letter t → IsFeedOf form (log_of m ++ []) (told_of t)
  stopped_fed m t letter ready its_log h =
      let before : List Entry = (replica_of m.journaled).feed in
      let grown = step_feed form (replica_of m.journaled) (replica_of h.asked_of) letter (Ok h.reply) h.asked.steps in
      record {
        replica = replica_of m.journaled;
        is_its_log = its_log;
        log_is = sym (append-nil (log_of m));
        feed_is = sym
            (ap (λ (z : State K). take t.told z.feed) h.replica ∙ ap (λ (n : ℕ). take n (replica_of h.asked_of).feed) (h.told ∙ ready.told) ∙ ap (take (length before)) grown.1
            ∙ take-append_seam before grown.0);
      }

  one_fed : (m t n : KeptMachine K D V) (xs : List Passed) (sender : Sender) (letter : Event) (answer : Result Reply Refusal) → Ready m → IsItsLog form (replica_of m.journaled)
      → Goes form device m letter answer t → Replays (Takes form device) t xs n
      → (Ready t → IsItsLog form (replica_of t.journaled) → IsFeedOf form (log_of t ++ admitted_of xs) (told_of n)) → IsFeedOf form (log_of m ++ admitted_of (passed sender letter answer ∷ xs)) (told_of n)
  one_fed m t n xs sender letter (Ok reply) ready its_log h replays rest =
      let log = kept_log form device m t letter reply h in
      subst (λ (l : List Event). IsFeedOf form l (told_of n)) (ap (λ (l : List Event). l ++ admitted_of xs) log ∙ append_assoc (log_of m) (letter ∷ []) (admitted_of xs))
      (rest (ready_kept form device m t letter reply h) (replaying.kept form (replica_of m.journaled) (replica_of t.journaled) letter (Ok reply) its_log h.steps))
  one_fed m t n xs sender letter (Err e) ready its_log h replays rest = ⊎_elim
      (λ same.
      let replica = declined_same form device m t letter e same in
      subst (λ (s : State K). IsFeedOf form (s.log ++ admitted_of xs) (told_of n)) replica
      (rest (ready_declined form device m t letter e ready same) (subst (λ (s : State K). IsItsLog form s) (sym replica) its_log)))
      (λ stop.
      let at_rest = rests form device t n xs stop.1.fault stop.1.stops replays in
      subst (λ (l : List Event). IsFeedOf form (log_of m ++ l) (told_of n)) (sym at_rest.none_admitted)
      (subst (λ (z : KeptMachine K D V). IsFeedOf form (log_of m ++ []) (told_of z)) (sym at_rest.same) (stopped_fed m t letter ready its_log stop.1)))
      h

  pub told_ran : (m n : KeptMachine K D V) (xs : List Passed) → Ready m → IsItsLog form (replica_of m.journaled) → Replays (Takes form device) m xs n → IsFeedOf form (log_of m ++ admitted_of xs) (told_of n)
  told_ran m n [] ready its_log h = subst (λ (z : KeptMachine K D V). IsFeedOf form (log_of m ++ []) (told_of z)) (sym h) (all_fed form m ready its_log)
  told_ran m n (x ∷ xs) ready its_log h =
      let one = subst (λ (o : Option KeptFault). TakesBy form device o m x.letter x.answer h.0) ready.goes_on h.1 in
      one_fed m h.0 n xs x.sender x.letter x.answer ready its_log one h.2 (λ on log. told_ran h.0 n xs on log h.2)
