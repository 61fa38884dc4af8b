-- The replies of a world that agrees with a moment are those of sets.
use Rattle.std.proofs.Common.{◌≡◌, refl, sym, ap, subst, ◌∙◌, ℕ, ◌≤◌, nat_le, Bool, true, false, List, map, length, take, inl, inr, ◌⊎◌, IsTrue, IsFalse, arith, Option, Some, None}
use Rattle.mr_world.proofs.Names.Lists.{Ok, leb-false, leb-true, option_map, take_all}
use Rattle.mr_world.proofs.Names.Wire.{Body, DescentParts, End, Held, Item, Know, MoveOut, Piece, Question, Sent, Start, piece_of}
use Rattle.mr_world.proofs.Names.Replica.{Asked, IsAskOf, Known, Reply, State, TakesBody, TakesLine, Took, all_claimed, entering, line_of}
use Rattle.mr_world.proofs.Names.Replica.{step_replied}
use Rattle.mr_world.proofs.Names.Sessions.{claimed}
use Rattle.mr_world.proofs.Names.Model.{Record, is_issued, item_of, known, numbered, version_in, ◌does◌}
use Rattle.mr_world.proofs.Names.Laws.{cases, numbered_in}
use Rattle.mr_world.proofs.Names.Mails.{ClauseParts, Form, Name, Rev}
use Rattle.mr_world.proofs.Names.World.{Agrees, AskedTooLong, ClaimsKnown, IsTooLong, IsTrueBody, IsTrueLine, MailMoment, Stepped, TellsWhetherKnown}
use Rattle.mr_world.proofs.Names.World.{World, receiving, seen_body, seen_record}
use Rattle.mr_wire.specs.declared.frame.TheConstants.{MAX_ASKED_BYTES}
use Rattle.mr_replica.specs.declared.event.Event.TheVariants as replica
use Rattle.mr_wire.specs.Encoding.{total_len}
use Rattle.mr_wire.specs.declared.frame.Frame.TheVariants as frame
use Rattle.mr_world.proofs.Moving.ByParts.{MovesAt, StepsAt}
use Rattle.mr_model.specs.declared.event.Act.TheVariants as act
use Rattle.mr_world.proofs.Moving.Opening.{asks_known as asks_no_more}
use Rattle.mr_world.proofs.Moving.Asking.{step_of}
use Rattle.mr_world.proofs.Groundwork.Tools.{numbered_map}

-- ---- requests

module _ {K : Type 0} (form : Form K) (s : State K) (q : Question) (ask : IsAskOf form s q) where
  abbrev all : List Piece
  all = map piece_of ask.fragments.fragments

  all_told : q.fragments ≡ all → (i v : Name) → claimed q.fragments i v ≡ form.known s.knowledge i v
  all_told same i v = ap (λ (ps : List Piece). claimed ps i v) same ∙ sym (ask.fragments.have.covered i v ∙ all_claimed ask.fragments.fragments i v)

  -- a request tells all that is known, unless that takes too many bytes
  pub asks_all : ((i v : Name) → claimed q.fragments i v ≡ form.known s.knowledge i v) ⊎ IsTooLong form s.knowledge
  asks_all = elim (cases (nat_le (total_len all) MAX_ASKED_BYTES)) [
    | inl t ↦ (let whole : take (length all) all ≡ all = take_all (length all) all (omega arith) in
        let few : total_len (take (length all) all) ≤ MAX_ASKED_BYTES = subst (λ (ps : List Piece). total_len ps ≤ MAX_ASKED_BYTES) (sym whole) (leb-true (total_len all) MAX_ASKED_BYTES t) in
        let long : length (take (length all) all) ≤ length q.fragments = ask.fragments.longest.longest (length all) few in
        let enough : length all ≤ length q.fragments = subst (λ (ps : List Piece). length ps ≤ length q.fragments) whole long in
        inl (all_told (ask.fragments.longest.beginning ∙ take_all (length q.fragments) all enough)))
    | inr n ↦ inr (record { fragments = ask.fragments.fragments; are = ask.fragments.are; long = leb-false (total_len all) MAX_ASKED_BYTES n })
  ]

module _ {K : Type 0} (form : Form K) (filters : ℕ → List ClauseParts) (w w' : World K) (m : MailMoment) (a : Agrees form filters w m) (r : ℕ) where
  pub asks_known : (q : Question) → MovesAt form w (r does act.Pull) (Stepped (Ok (Asked q))) w' → ((v : Name) → IsTrue (is_issued m.issues v) → claimed q.fragments (item_of m.issues v) v ≡ known m r v) ⊎ IsTooLong form (w.replicas r).knowledge
  asks_known q move =
      let there = step_of form w (r does act.Pull) replica.Pull (Stepped (Ok (Asked q))) w' refl move in
      let step = step_replied form (w.replicas r) replica.Pull (Asked q) there.1 there.2 in
      elim (asks_all form (w.replicas r) q step.1.0) [
        | inl same ↦ inl (λ v issued. same (item_of m.issues v) v ∙ (a.holdings r).knows.same v issued)
        | inr long ↦ inr long
      ]

  pub claims_known : (ends : ℕ → Option (State K)) (q : Question) → MovesAt form w (r does act.Pull) (Stepped (Ok (Asked q))) w'
      → (IsAskOf form (w.replicas r) q → IsTooLong form (w.replicas r).knowledge → (end : State K) × (ends r ≡ Some end) × AskedTooLong form m r end q) → ClaimsKnown form ends m r q
  claims_known ends q move too_long = grind (arith, step_of, step_replied, asks_no_more, item_of, asks_all)

  -- ---- records

  -- whether a version that is told is known, as the moment has it
  line_known : (line : DescentParts) → IsTrueLine m.issues line → (b : Bool) → form.known (w.replicas r).knowledge line.item line.version ≡ b → known m r line.version ≡ b
  line_known line t b h = sym ((a.holdings r).knows.same line.version t.is_one) ∙ (ap (λ (i : Name). form.known (w.replicas r).knowledge i line.version) t.of_item ∙ h)

  -- a version is answered as known where it is
  abbrev pub IsAnswer : Reply → Name → Type 0
  IsAnswer Known v = IsTrue (known m r v)
  IsAnswer Took v = IsFalse (known m r v)
  IsAnswer reply v = ⊥

  line_answer : (sent : Sent) (line : DescentParts) (comer : Option Rev) (reply : Reply) (new : State K) → IsTrueLine m.issues line → TakesLine form (w.replicas r) sent line comer reply new → IsAnswer reply line.version
  line_answer sent line comer Known new t step = line_known line t true step.0
  line_answer sent line comer Took new t step = line_known line t false step.0
  line_answer sent line comer reply new t step = grind (arith, line_known)

  body_answer : (sent : Sent) (b : Body) (reply : Reply) (new : State K) (v : Name) → IsTrueBody m.issues b → version_in (seen_body b) ≡ Some v → TakesBody form (w.replicas r) sent b reply new → IsAnswer reply v
  body_answer sent b reply new v t e step = grind (arith, line_answer, line_of, entering)

  record_answer : (n : ℕ) (sent : Sent) → numbered w.records n ≡ Some sent → (reply : Reply) → StepsAt form w r (replica.Receive (frame.Record sent)) (Stepped (Ok reply)) w' → (v : Name) → version_in (seen_body sent.body) ≡ Some v → IsAnswer reply v
  record_answer n sent pool reply there v e =
      body_answer sent sent.body reply there.1 v (a.records.each sent (numbered_in w.records n sent pool)) e (step_replied form (w.replicas r) (replica.Receive (frame.Record sent)) reply there.1 there.2).1

  -- Known is answered of a version that is known, and Took of one that is not
  pub received : (n : ℕ) (reply : Reply) → MovesAt form w (r does act.Receive n) (Stepped (Ok reply)) w' → (sent : Sent) → numbered w.records n ≡ Some sent → (v : Name) → version_in (seen_body sent.body) ≡ Some v → IsAnswer reply v
  received n reply move sent pool v e =
      record_answer n sent pool reply (step_of form w (r does act.Receive n) (replica.Receive (frame.Record sent)) (Stepped (Ok reply)) w' (ap (λ (o : Option Sent). option_map receiving o) pool) move) v e

  pub tells_known : (n : ℕ) (sent : Sent) → numbered w.records n ≡ Some sent → (reply : Reply) → StepsAt form w r (replica.Receive (frame.Record sent)) (Stepped (Ok reply)) w' → TellsWhetherKnown m r reply (numbered m.given n)
  tells_known n sent pool reply there =
      subst (TellsWhetherKnown m r reply) (sym (ap (λ (xs : List Record). numbered xs n) a.given ∙ numbered_map seen_record w.records n sent pool)) (tells reply (record_answer n sent pool reply there))
    where
      tells : (reply : Reply) → ((v : Name) → version_in (seen_body sent.body) ≡ Some v → IsAnswer reply v) → TellsWhetherKnown m r reply (Some (seen_record sent))
      tells Known h = h
      tells Took h = h
      tells reply h = tt
