-- Create and Edit, as events of a world.
use Rattle.std.proofs.Common.{◌≡◌, sym, subst, ℕ, List, [], ◌∷◌, Option, Some, None, arith}
use Rattle.mr_world.proofs.Names.Lists.{Ok}
use Rattle.mr_world.proofs.Names.Replica.{Issued, NoBase, Refusal, retired, ◌orelse◌}
use Rattle.mr_world.proofs.Names.Laws.{Inv}
use Rattle.mr_world.proofs.Names.Mails.{ClauseParts, Form, Mail, Name}
use Rattle.mr_world.proofs.Names.World.{Agrees, MailMoment, Stepped, World, setting_of}
use Rattle.mr_replica.specs.declared.event.Event.TheVariants as replica
use Rattle.mr_world.proofs.Moving.ByParts.{with_replica}
use Rattle.mr_model.specs.declared.event.Act.TheVariants as act
use Rattle.mr_world.proofs.Agreement.Editing.{create_agrees, edit_agrees}
use Rattle.mr_world.proofs.Moving.Refines.{Refines, Replies}
use Rattle.mr_world.proofs.Groundwork.Tools.{orelse_none}

some_refused : (a : Option Refusal) (x : Refusal) → (a orelse Some x) ≡ None → ⊥
some_refused a x e = let c : Some x ≡ None = (orelse_none a (Some x) e).1 in absurd (cc)

module _ {K : Type 0} (form : Form K) (filters : ℕ → List ClauseParts) (w : World K) (m : MailMoment) (inv : Inv (setting_of filters) m) (a : Agrees form filters w m) (r : ℕ) where
  pub creates : (message : Mail) → Replies form filters w m r (act.Create message) (replica.Create message)
  creates message (Issued v) new none step = subst (λ (u : Name). Refines form filters w m r (act.Create message) (Stepped (Ok (Issued u))) (with_replica w r new)) (sym step.0)
      (create_agrees form filters w m inv a r message v new none step)
  creates message reply new none step = absurd step

  pub edits : (bases : List Name) (message : Mail) → Replies form filters w m r (act.Edit bases message) (replica.Edit bases message)
  edits (b ∷ bs) message (Issued v) new none step = subst (λ (u : Name). Refines form filters w m r (act.Edit (b ∷ bs) message) (Stepped (Ok (Issued u))) (with_replica w r new)) (sym step.0)
      (edit_agrees form filters w m inv a r b bs message none v new step)
  edits [] message (Issued v) new none step = absurd (some_refused (retired (w.replicas r)) NoBase none)
  edits bases message reply new none step = absurd step
