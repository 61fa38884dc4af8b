-- The act that is named for a log's event asks for just that, and where none is named no act does.
use Rattle.std.proofs.Common.{◌≡◌, refl, sym, ap, subst, ◌∙◌, cond, ℕ, Bool, true, false, List, Option, Some, None, arith}
use Rattle.mr_settle.proofs.Names.{Act, AsksFor, Event, Frame, GivenNumbers, HasBytes, In, IsSomeAnd, Mail, MatchOption, Names, Numbering, Question, Receipt}
use Rattle.mr_settle.proofs.Names.{Sent, Task, TellAll, Tells, WorldView, answering, asked, asked_in, carried, delivering, found_in, nat_lt, numbered}
use Rattle.mr_settle.proofs.Names.{option_map, receiving, record_len, releasing, spelled_once}
use Rattle.mr_model.specs.declared.event.Act.TheVariants as act
use Rattle.mr_model.proofs.Sets.{numbered_in}
use Rattle.mr_replica.specs.declared.event.Event.{Event as ReplicaEvent}
use Rattle.mr_replica.specs.declared.event.Event.TheVariants as replica
use Rattle.mr_wire.specs.declared.frame.Frame.TheVariants as frame
use Rattle.mr_world.specs.declared.task.Task.TheVariants as task
use Rattle.mr_settle.proofs.PoolLemmas.{one_spelled}

-- ---- a frame is of one thing

pub one_ask : (x y : Question) → (let f : Frame = frame.Ask x in f ≡ frame.Ask y) → x ≡ y
one_ask x y e = cc

pub one_record : (x y : Sent) → (let f : Frame = frame.Record x in f ≡ frame.Record y) → x ≡ y
one_record x y e = cc

pub one_receipt : (x y : Receipt) → (let f : Frame = frame.Receipt x in f ≡ frame.Receipt y) → x ≡ y
one_receipt x y e = cc

-- ---- a number is of the frame

-- it is the number of x in the pool; or x is not there
abbrev IsNumberIn : {A : Type 0} → List A → A → Option ℕ → Type 0
IsNumberIn pool x (Some n) = numbered pool n ≡ Some x
IsNumberIn pool x None = In x pool → ⊥

module _ {A : Type 0} (frame_of : A → Frame) (value_of : (x y : A) → frame_of x ≡ frame_of y → x ≡ y) where
  -- what is found by the bytes of a frame is its number
  number_found : (pool : List A) (numbers : Numbering) (x : A) (bytes : Option (List ℕ)) → Tells frame_of pool numbers → HasBytes (Some (frame_of x)) bytes → IsNumberIn pool x (found_in numbers bytes)
  number_found pool numbers x None tells unspelled = λ i. (let told = tells.all x i in unspelled told.0 told.1)
  number_found pool numbers x (Some bytes) tells spells = by (numbers bytes) refl
    where
      by : (o : Option ℕ) → numbers bytes ≡ o → IsNumberIn pool x o
      by (Some n) is = let told = tells.found bytes n is in told.1 ∙ ap (λ (z : A). Some z) (one_spelled frame_of value_of told.0 x bytes told.2 spells)
      by None is = λ i. (let told = tells.all x i in told.2 (ap numbers (spelled_once 2 (frame_of x) told.0 bytes told.1 spells) ∙ is))

-- ---- what an act asks for was given

module _ (asks : List Question) (records : List Sent) (receipts : List Receipt) where
  -- the frame that the event carries, if it carries one, is in its pool
  abbrev IsGiven : ReplicaEvent → Type 0
  IsGiven (replica.Receive f) = (sent : Sent) × (f ≡ frame.Record sent) × In sent records
  IsGiven (replica.Answer question) = In question asks
  IsGiven (replica.Release receipt) = In receipt receipts
  IsGiven event = Unit {0}

  abbrev IsGivenFor : Option Task → Type 0
  IsGivenFor (Some (task.Step event)) = IsGiven event
  IsGivenFor o = Unit {0}

  given_for_one : {A : Type 0} (asks_for : A → Task) (pool : List A) (n : ℕ) → ((x : A) → In x pool → IsGivenFor (Some (asks_for x))) → IsGivenFor (option_map asks_for (numbered pool n))
  given_for_one asks_for pool n each = grind (arith, numbered_in)

  given_for : (a : Act Mail) → IsGivenFor (asked asks records receipts a)
  given_for (act.Receive n) = given_for_one receiving records n (λ sent i. (sent, refl, i))
  given_for (act.DeliverPart n bytes) = given_for_one (delivering bytes) records n (λ sent i. part (nat_lt bytes (record_len sent)) sent i)
    where
      part : (b : Bool) (sent : Sent) → In sent records → IsGivenFor (Some (cond b task.Truncated (receiving sent)))
      part true sent i = tt
      part false sent i = (sent, refl, i)
  given_for (act.Answer n) = given_for_one answering asks n (λ question i. i)
  given_for (act.Release n) = given_for_one releasing receipts n (λ receipt i. i)
  given_for a = grind (arith, given_for_one)

  given_if_asked : (a : Act Mail) (event : ReplicaEvent) → asked asks records receipts a ≡ Some (task.Step event) → IsGiven event
  given_if_asked a event is = subst IsGivenFor is (given_for a)

  -- by the number of what the event carries an act asks for the event; where it has none, none does
  asks_by : {A : Type 0} (pool : List A) (x : A) (event : ReplicaEvent) (by_number : ℕ → Act Mail) (o : Option ℕ) → IsNumberIn pool x o
      → ((n : ℕ) → numbered pool n ≡ Some x → asked asks records receipts (by_number n) ≡ Some (task.Step event)) → (IsGiven event → In x pool)
      → AsksFor (asked asks records receipts) event (option_map by_number o)
  asks_by pool x event by_number (Some n) number there back = there n number
  asks_by pool x event by_number None none there back = λ a is. none (back (given_if_asked a event is))

-- ---- the act that is named

module _ (g : GivenNumbers) (bytes : Option (List ℕ)) (o : Option ℕ) where
  names_answer : (question : Question) → HasBytes (carried (replica.Answer question)) bytes → o ≡ found_in g.asks bytes → Names g (replica.Answer question) (option_map (λ n. act.Answer n) o)
  names_answer question has is = λ asks records receipts tells.
      asks_by asks records receipts asks question (replica.Answer question) (λ n. act.Answer n) o
      (subst (IsNumberIn asks question) (sym is) (number_found (λ x. frame.Ask x) one_ask asks g.asks question bytes tells.of_asks has))
      (λ n number. ap (option_map answering) number) (λ given. given)

  names_release : (receipt : Receipt) → HasBytes (carried (replica.Release receipt)) bytes → o ≡ found_in g.receipts bytes → Names g (replica.Release receipt) (option_map (λ n. act.Release n) o)
  names_release receipt has is = λ asks records receipts tells.
      asks_by asks records receipts receipts receipt (replica.Release receipt) (λ n. act.Release n) o
      (subst (IsNumberIn receipts receipt) (sym is) (number_found (λ x. frame.Receipt x) one_receipt receipts g.receipts receipt bytes tells.of_receipts has))
      (λ n number. ap (option_map releasing) number) (λ given. given)

  names_record : (sent : Sent) → HasBytes (Some (frame.Record sent)) bytes → o ≡ found_in g.records bytes → Names g (replica.Receive (frame.Record sent)) (option_map (λ n. act.Receive n) o)
  names_record sent has is = λ asks records receipts tells.
      asks_by asks records receipts records sent (replica.Receive (frame.Record sent)) (λ n. act.Receive n) o
      (subst (IsNumberIn records sent) (sym is) (number_found (λ x. frame.Record x) one_record records g.records sent bytes tells.of_records has))
      (λ n number. ap (option_map receiving) number) (λ given. subst (λ (x : Sent). In x records) (sym (one_record sent given.0 given.1)) given.2)

  -- no act asks a replica to take what is no record
  names_none : (f : Frame) → ((sent : Sent) → f ≡ frame.Record sent → ⊥) → bytes ≡ None → o ≡ found_in g.records bytes → Names g (replica.Receive f) (option_map (λ n. act.Receive n) o)
  names_none f other h is = grind (arith, given_if_asked)

  names_receive : (f : Frame) → HasBytes (carried (replica.Receive f)) bytes → o ≡ found_in g.records bytes → Names g (replica.Receive f) (option_map (λ n. act.Receive n) o)
  names_receive f has is = grind (arith, names_record, names_none)

-- by `Option::map` the act is made of the number, where there is one
abbrev IsMade : (ℕ → Act Mail) → Option ℕ → Option (Act Mail) → Type 0
IsMade by_number o named = MatchOption o (named ≡ None) (λ n. IsSomeAnd named (λ a. a ≡ by_number n))

is_mapped : (by_number : ℕ → Act Mail) (o : Option ℕ) (named : Option (Act Mail)) → IsMade by_number o named → named ≡ option_map by_number o
is_mapped by_number o named made = grind arith

module _ (g : GivenNumbers) (event : ReplicaEvent) (bytes : Option (List ℕ)) (has : HasBytes (carried event) bytes) (o : Option ℕ) (named : Option (Act Mail)) where
  names_made : (same : ReplicaEvent) (by_number : ℕ → Act Mail) → event ≡ same → IsMade by_number o named → (HasBytes (carried same) bytes → Names g same (option_map by_number o)) → Names g event named
  names_made same by_number is made names = grind (arith, is_mapped)

  pub named_receive : (f : Frame) → event ≡ replica.Receive f → o ≡ found_in g.records bytes → IsMade (λ n. act.Receive n) o named → Names g event named
  named_receive f is found made = names_made (replica.Receive f) (λ n. act.Receive n) is made (λ it_has. names_receive g bytes o f it_has found)

  pub named_answer : (question : Question) → event ≡ replica.Answer question → o ≡ found_in g.asks bytes → IsMade (λ n. act.Answer n) o named → Names g event named
  named_answer question is found made = names_made (replica.Answer question) (λ n. act.Answer n) is made (λ it_has. names_answer g bytes o question it_has found)

  pub named_release : (receipt : Receipt) → event ≡ replica.Release receipt → o ≡ found_in g.receipts bytes → IsMade (λ n. act.Release n) o named → Names g event named
  named_release receipt is found made = names_made (replica.Release receipt) (λ n. act.Release n) is made (λ it_has. names_release g bytes o receipt it_has found)

-- ---- in a world

-- The event is for the replica r, and asks it for just this.
pub record IsNamed {K : Type 0} (w : WorldView K) (r : ℕ) (e : ReplicaEvent) (we : Event Mail) : Type 0 where
  pub is_for : we.replica ≡ r
  pub asks : asked_in w we.act ≡ Some (task.Step e)

module _ {K : Type 0} where
  pub named : (w : WorldView K) (g : GivenNumbers) (r : ℕ) (e : ReplicaEvent) (we : Event Mail) → TellAll w g → we.replica ≡ r → Names g e (Some we.act) → IsNamed w r e we
  named w g r e we tells is_for names = record { is_for = is_for; asks = names w.asks w.records w.receipts tells }
