-- What it is that a world's step is one of the model's, and the answers that change nothing.
use Rattle.std.proofs.Common.{◌≡◌, sym, subst, ℕ, List, IsFalse, Option, None, arith}
use Rattle.mr_world.proofs.Names.Lists.{Err, Ok}
use Rattle.mr_world.proofs.Names.Replica.{Changes, Event as ReplicaEvent, Refusal, Reply, State, first_refusal, not_refused, retired, step_refused}
use Rattle.mr_world.proofs.Names.Replica.{step_replied, ◌orelse◌}
use Rattle.mr_world.proofs.Names.Model.{Act, Change, IsAllowed, change_of, happens}
use Rattle.mr_world.proofs.Names.Mails.{ClauseParts, Form, Mail, MailCard}
use Rattle.mr_world.proofs.Names.World.{Agrees, Answer, MailMoment, Stepped, World, seen_answer, setting_of}
use Rattle.mr_model.specs.History as model
use Rattle.mr_model.specs.declared.event.Act.TheVariants.{Create}
use Rattle.mr_replica.specs.declared.refusal.Refusal.TheVariants as refusal
use Rattle.mr_world.proofs.Moving.ByParts.{StepsAt, with_given, with_replica}
use Rattle.mr_world.proofs.Groundwork.Tools.{at_self, orelse_none}

module _ {K : Type 0} (form : Form K) where
  module _ (filters : ℕ → List ClauseParts) (w : World K) (m : MailMoment) where
    -- the rules allow the change, and the world agrees with the moment after it
    abbrev pub IsInStep : Change Mail MailCard → World K → Type 0
    IsInStep c w' = IsAllowed (setting_of filters) m c × Agrees form filters w' (happens (setting_of filters) m c)

    -- so it is with the change that a history sees of the act and its answer
    abbrev pub Refines : ℕ → Act Mail → Answer → World K → Type 0
    Refines r act answer w' = IsInStep (change_of m r act (seen_answer m.issues answer)) w'

    -- a change by another name
    pub by_change : (r : ℕ) (act : Act Mail) (answer : Answer) (w' : World K) (c : Change Mail MailCard) → change_of m r act (seen_answer m.issues answer) ≡ c → IsInStep c w' → Refines r act answer w'
    by_change r act answer w' c same h = subst (λ (z : Change Mail MailCard). IsInStep z w') (sym same) h

    -- what a history sees as a refusal changes nothing
    pub stays : (r : ℕ) (act : Act Mail) (w' : World K) → Agrees form filters w' m → IsInStep (change_of m r act model.Refused) w'
    stays r (Create message) w' h = (tt, h)
    stays r act w' h = (tt, h)

    -- the replica that is put back as it was
    pub put_back : (a : Agrees form filters w m) (r : ℕ) (new : State K) → new ≡ w.replicas r → Agrees form filters (with_replica w r new) m
    put_back a r new same = grind (arith, with_replica, at_self)

    -- so it is with each reply to an act that is that event of the replica
    abbrev pub Replies : ℕ → Act Mail → ReplicaEvent → Type 0
    Replies r act there = (reply : Reply) (new : State K) → first_refusal (w.replicas r) there ≡ None → Changes form (w.replicas r) there reply new →
        Refines r act (Stepped (Ok reply)) (with_given (with_replica w r new) (Ok reply))

    -- A replica's answer: a refusal changes nothing, so it is enough to look at the replies.
    pub by_steps : (a : Agrees form filters w m) (r : ℕ) (act : Act Mail) (there : ReplicaEvent) (answer : Answer) (w' : World K) → StepsAt form w r there answer w' → Replies r act there → Refines r act answer w'
    by_steps a r act there (Stepped (Ok reply)) w' move replies =
        let h = step_replied form (w.replicas r) there reply move.1 move.2 in
        subst (Refines r act (Stepped (Ok reply))) (sym move.3) (replies reply move.1 h.0 h.1)
    by_steps a r act there (Stepped (Err x)) w' move replies =
        subst (Refines r act (Stepped (Err x))) (sym move.3) (stays r act (with_replica w r move.1) (put_back a r move.1 (step_refused form (w.replicas r) there x move.1 move.2)))
    by_steps a r act there answer w' move replies = grind (arith, step_replied, stays, with_replica, put_back, step_refused)

  -- the replica has not retired
  pub alive : (s : State K) (rest : Option Refusal) → (retired s orelse rest) ≡ None → IsFalse s.is_retired
  alive s rest none = not_refused s.is_retired refusal.Retired (orelse_none (retired s) rest none).0
