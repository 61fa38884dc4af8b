-- What becomes of a world by one event of one of its replicas.
use Rattle.std.proofs.Common.{◌≡◌, ◌≢◌, ◌==◌, refl, sym, ap, subst, ◌∙◌, ℕ, List, [], ◌∷◌, Some, Result, Ok, Err, inl, inr, arith}
use Rattle.mr_settle.proofs.Names.{Answer, Becomes, Event, Form, Grew, Happens, Mail, MemberView, OutOfMemory, Question, Receipt, Refusal, Reply, Sent, State}
use Rattle.mr_settle.proofs.Names.{Stepped, Steps, WorldView, find, given_in, ids_of, is_none, member_at, option_map, replica_at}
use Rattle.mr_replica.specs.declared.event.Event.{Event as ReplicaEvent}
use Rattle.mr_replica.specs.declared.event.Reply.TheVariants as reply
use Rattle.mr_world.specs.Does.{StepsTo}
use Rattle.mr_world.specs.Given.{GivenLists, with_given}
use Rattle.mr_settle.proofs.ListLemmas.{some_one}
use Rattle.mr_settle.proofs.NamedLemmas.{IsNamed}

-- ---- who is there

module _ {K : Type 0} where
  -- a member of this id is there where the id is
  pub there_if : (ms : List (MemberView K)) (q : ℕ) → is_none (member_at ms q) ≡ is_none (find (λ i. i == q) (ids_of ms))
  there_if [] q = refl
  there_if (m ∷ ms) q = grind (arith, there_if ms q)

-- ---- what is given

given_asks : (lists : GivenLists) (outcome : Result Reply Refusal) → Grew lists.asks (with_given lists (Stepped outcome)).asks
given_asks lists (Ok (reply.Asked question)) = inr (question, refl)
given_asks lists outcome = grind arith

given_records : (lists : GivenLists) (outcome : Result Reply Refusal) → Grew lists.records (with_given lists (Stepped outcome)).records
given_records lists (Ok (reply.Gave sent)) = inr (sent, refl)
given_records lists outcome = inl refl

given_receipts : (lists : GivenLists) (outcome : Result Reply Refusal) → Grew lists.receipts (with_given lists (Stepped outcome)).receipts
given_receipts lists (Ok (reply.Vouched receipt)) = inr (receipt, refl)
given_receipts lists outcome = grind arith

-- The replica r was asked for this, answered, and is another; the others are as they were, and each pool is as it was or has one more.
pub record Turns {K : Type 0} (form : Form K) (w : WorldView K) (r : ℕ) (e : ReplicaEvent) (answer : Answer) (w' : WorldView K) : Type 0 where
  pub outcome : Result Reply Refusal
  pub answer_is : answer ≡ Stepped outcome
  pub has_memory : outcome ≢ Err OutOfMemory
  pub before : State K
  pub after : State K
  pub was : replica_at w.members r ≡ Some before
  pub steps : Steps form before e outcome after
  pub is : replica_at w'.members r ≡ Some after
  pub others : (q : ℕ) (s : State K) → q ≢ r → replica_at w.members q ≡ Some s → replica_at w'.members q ≡ Some s
  pub asks : Grew w.asks w'.asks
  pub records : Grew w.records w'.records
  pub receipts : Grew w.receipts w'.receipts

module _ {K : Type 0} (form : Form K) where
  stepped_turns : (w w' : WorldView K) (r : ℕ) (e : ReplicaEvent) (answer : Answer) (old new : MemberView K) → Becomes r old new w.members w'.members → given_in w' ≡ with_given (given_in w) answer
      → StepsTo form e old.replica answer new.replica → Turns form w r e answer w'
  stepped_turns w w' r e (Stepped outcome) old new becomes gives h = record {
    outcome = outcome;
    answer_is = refl;
    has_memory = h.0;
    before = old.replica;
    after = new.replica;
    was = ap (option_map (λ (m : MemberView K). m.replica)) becomes.was;
    steps = h.1;
    is = ap (option_map (λ (m : MemberView K). m.replica)) becomes.is;
    others = λ q s ne there. (ap (option_map (λ (m : MemberView K). m.replica)) (becomes.others q ne) ∙ there);
    asks = subst (λ (xs : List Question). Grew w.asks xs) (sym (ap (λ (lists : GivenLists). lists.asks) gives)) (given_asks (given_in w) outcome);
    records = subst (λ (xs : List Sent). Grew w.records xs) (sym (ap (λ (lists : GivenLists). lists.records) gives)) (given_records (given_in w) outcome);
    receipts = subst (λ (xs : List Receipt). Grew w.receipts xs) (sym (ap (λ (lists : GivenLists). lists.receipts) gives)) (given_receipts (given_in w) outcome);
  }
  stepped_turns w w' r e answer old new becomes gives h = grind (arith, given_asks, given_records, given_receipts)

  pub turns : (w w' : WorldView K) (r : ℕ) (e : ReplicaEvent) (we : Event Mail) (answer : Answer) → IsNamed w r e we → Happens form w we answer w' → Turns form w r e answer w'
  turns w w' r e we answer named h = grind (arith, some_one, stepped_turns)
