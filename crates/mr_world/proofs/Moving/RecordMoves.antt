-- Receive and DeliverPart, as events of a world.
use Rattle.std.proofs.Common.{◌≡◌, sym, subst, ℕ, List, Some, None, arith}
use Rattle.mr_world.proofs.Names.Lists.{Ok}
use Rattle.mr_world.proofs.Names.Wire.{Sent}
use Rattle.mr_world.proofs.Names.Replica.{Changes, Reply, State, first_refusal}
use Rattle.mr_world.proofs.Names.Model.{Change, IsReceived, after_taking, change_by_reply, numbered, reception_of}
use Rattle.mr_world.proofs.Names.Laws.{Inv}
use Rattle.mr_world.proofs.Names.Mails.{ClauseParts, Form, Mail, MailCard}
use Rattle.mr_world.proofs.Names.World.{Agrees, Answer, MailMoment, Task, World, seen_body, seen_record, seen_reply, setting_of}
use Rattle.mr_model.specs.Changes.{Change.Takes}
use Rattle.mr_replica.specs.declared.event.Event.TheVariants as replica
use Rattle.mr_replica.specs.declared.event.Reply.TheVariants as reply
use Rattle.mr_wire.specs.declared.frame.Frame.TheVariants as frame
use Rattle.mr_model.specs.declared.event.Act.TheVariants as act
use Rattle.mr_world.proofs.Agreement.Receiving.{receive_agrees}
use Rattle.mr_world.specs.declared.task.Task.TheVariants as task
use Rattle.mr_world.proofs.Moving.ByParts.{DoesAt, with_given, with_replica}
use Rattle.mr_world.proofs.Moving.Asking.{IsPartOf, IsPartOf.Some_bytes, IsPartOf.All_bytes}
use Rattle.mr_world.proofs.Moving.Refines.{IsInStep, Refines, by_steps, stays}

module _ {K : Type 0} (form : Form K) (filters : ℕ → List ClauseParts) (w : World K) (m : MailMoment) (inv : Inv (setting_of filters) m) (a : Agrees form filters w m) (r n : ℕ) (x : Sent) (pool : numbered w.records n ≡ Some x) where
  -- a record of the pool is taken
  pub receives : (given : Reply) (new : State K) → first_refusal (w.replicas r) (replica.Receive (frame.Record x)) ≡ None → Changes form (w.replicas r) (replica.Receive (frame.Record x)) given new →
      IsInStep form filters w m (change_by_reply m r n (seen_reply m.issues given)) (with_given (with_replica w r new) (Ok given))
  receives given new none step = go given (receive_agrees form filters w m inv a r x none n given new pool step)
    where
      go : (given : Reply) → (change_by_reply m r n (seen_reply m.issues given) ≡ Takes r (seen_record x) (reception_of m r (seen_body x.body))) × IsReceived m r (seen_record x) (reception_of m r (seen_body x.body)) ×
          Agrees form filters (with_replica w r new) (after_taking (setting_of filters) m r (seen_record x)) →
          IsInStep form filters w m (change_by_reply m r n (seen_reply m.issues given)) (with_given (with_replica w r new) (Ok given))
      go reply.Took h = subst (λ (c : Change Mail MailCard). IsInStep form filters w m c (with_replica w r new)) (sym h.0) (h.1, h.2)
      go reply.Known h = subst (λ (c : Change Mail MailCard). IsInStep form filters w m c (with_replica w r new)) (sym h.0) (h.1, h.2)
      go reply.Finished h = subst (λ (c : Change Mail MailCard). IsInStep form filters w m c (with_replica w r new)) (sym h.0) (h.1, h.2)
      go given h = let misfit = h.0 in absurd (cc)

  -- or a part of it comes, and nothing changes
  pub delivers : (bytes : ℕ) (t : Task) → IsPartOf bytes x t → (given : Answer) (w' : World K) → DoesAt form w r t given w' → Refines form filters w m r (act.DeliverPart n bytes) given w'
  delivers bytes t (Some_bytes few is) given w' done =
      let cut : DoesAt form w r task.Truncated given w' = subst (λ (u : Task). DoesAt form w r u given w') is done in
      subst (λ (g : Answer). Refines form filters w m r (act.DeliverPart n bytes) g w') (sym cut.0) (stays form filters w m r (act.DeliverPart n bytes) w' (subst (λ (z : World K). Agrees form filters z m) (sym cut.1) a))
  delivers bytes t (All_bytes few is) given w' done =
      by_steps form filters w m a r (act.DeliverPart n bytes) (replica.Receive (frame.Record x)) given w' (subst (λ (u : Task). DoesAt form w r u given w') is done) receives
