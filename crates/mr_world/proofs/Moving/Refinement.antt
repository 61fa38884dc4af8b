-- One event of a world is one that the rules allow, and what agreed agrees after it.
use Rattle.std.proofs.Common.{◌≡◌, sym, ap, subst, ℕ, List, Some, arith}
use Rattle.mr_world.proofs.Names.Replica.{Event as ReplicaEvent, some_same}
use Rattle.mr_world.proofs.Names.Model.{Act, Event, numbered}
use Rattle.mr_world.proofs.Names.Laws.{Inv}
use Rattle.mr_world.proofs.Names.Mails.{ClauseParts, Form, Mail}
use Rattle.mr_world.proofs.Names.World.{Agrees, Answer, MailMoment, Task, World, answering, asked, delivering, receiving, releasing, setting_of}
use Rattle.mr_model.specs.declared.event.Act.TheVariants as act
use Rattle.mr_world.specs.declared.task.Task.TheVariants as task
use Rattle.mr_replica.specs.declared.event.Event.TheVariants as replica
use Rattle.mr_wire.specs.declared.frame.Frame.TheVariants as frame
use Rattle.mr_world.proofs.Moving.ByParts.{DoesAt, MovesAt}
use Rattle.mr_world.proofs.Moving.Asking.{found, part_or_whole}
use Rattle.mr_world.proofs.Moving.IssueMoves.{creates, edits}
use Rattle.mr_world.proofs.Drawing.NextWhole.{nexts}
use Rattle.mr_world.proofs.Moving.Opening.{answers, cuts_in, cuts_out, pulls, retires}
use Rattle.mr_world.proofs.Moving.PortMoves.{closes, offers, takes}
use Rattle.mr_world.proofs.Moving.Receipts.{releases, vouches}
use Rattle.mr_world.proofs.Moving.RecordMoves.{delivers, receives}
use Rattle.mr_world.proofs.Moving.Refines.{Refines, Replies, by_steps}

module _ {K : Type 0} (form : Form K) (filters : ℕ → List ClauseParts) (w : World K) (m : MailMoment) (inv : Inv (setting_of filters) m) (a : Agrees form filters w m) where
  -- the act's task is this one
  done : (r : ℕ) (u t : Task) (given : Answer) (w' : World K) → Some u ≡ Some t → DoesAt form w r t given w' → DoesAt form w r u given w'
  done r u t given w' is does = subst (λ (z : Task). DoesAt form w r z given w') (sym (some_same u t is)) does

  -- it is an event of the replica
  step : (r : ℕ) (x : Act Mail) (there : ReplicaEvent) (t : Task) (given : Answer) (w' : World K) → Some (task.Step there) ≡ Some t → DoesAt form w r t given w' → Replies form filters w m r x there → Refines form filters w m r x given w'
  step r x there t given w' is does replies = by_steps form filters w m a r x there given w' (done r (task.Step there) t given w' is does) replies

  task_refines : (r : ℕ) (x : Act Mail) (t : Task) (given : Answer) (w' : World K) → asked w.asks w.records w.receipts x ≡ Some t → DoesAt form w r t given w' → Refines form filters w m r x given w'
  task_refines r (act.Create message) t given w' is does = step r (act.Create message) (replica.Create message) t given w' is does (creates form filters w m inv a r message)
  task_refines r (act.Edit bases message) t given w' is does = step r (act.Edit bases message) (replica.Edit bases message) t given w' is does (edits form filters w m inv a r bases message)
  task_refines r act.Retire t given w' is does = step r act.Retire replica.Retire t given w' is does (retires form filters w m inv a r)
  task_refines r act.Pull t given w' is does = step r act.Pull replica.Pull t given w' is does (pulls form filters w m inv a r)
  task_refines r (act.Receive n) t given w' is does = let x = found receiving (numbered w.records n) t is in
      step r (act.Receive n) (replica.Receive (frame.Record x.0)) t given w' (ap Some x.2) does (receives form filters w m inv a r n x.0 x.1)
  task_refines r (act.DeliverPart n bytes) t given w' is does = let x = found (delivering bytes) (numbered w.records n) t is in
      delivers form filters w m inv a r n x.0 x.1 bytes t (part_or_whole bytes x.0 t x.2) given w' does
  task_refines r (act.CutIn session) t given w' is does = step r (act.CutIn session) (replica.CutIn session) t given w' is does (cuts_in form filters w m inv a r session)
  task_refines r (act.Answer n) t given w' is does = let x = found answering (numbered w.asks n) t is in
      step r (act.Answer n) (replica.Answer x.0) t given w' (ap Some x.2) does (answers form filters w m inv a r n x.0 x.1)
  task_refines r (act.Next stream) t given w' is does = step r (act.Next stream) (replica.Next stream) t given w' is does (nexts form filters w m inv a r stream)
  task_refines r (act.CutOut stream) t given w' is does = step r (act.CutOut stream) (replica.CutOut stream) t given w' is does (cuts_out form filters w m inv a r stream)
  task_refines r (act.Offer u) t given w' is does = offers form filters w m inv a r u given w' (done r _ t given w' is does)
  task_refines r (act.Take u) t given w' is does = takes form filters w m inv a r u given w' (done r _ t given w' is does)
  task_refines r (act.Close u) t given w' is does = closes form filters w m inv a r u given w' (done r _ t given w' is does)
  task_refines r (act.Vouch version) t given w' is does = step r (act.Vouch version) (replica.Vouch version) t given w' is does (vouches form filters w m inv a r version)
  task_refines r (act.Release n) t given w' is does = let x = found releasing (numbered w.receipts n) t is in
      step r (act.Release n) (replica.Release x.0) t given w' (ap Some x.2) does (releases form filters w m inv a r n x.0 x.1)

  pub refines : (e : Event Mail) (given : Answer) (w' : World K) → MovesAt form w e given w' → Refines form filters w m e.replica e.act given w'
  refines e given w' move = task_refines e.replica e.act move.0 given w' move.1 move.2
