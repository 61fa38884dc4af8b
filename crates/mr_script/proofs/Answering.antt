-- which answers the events of a sync have
use Rattle.std.proofs.Common.{◌≡◌, ◌∙◌, ℕ, refl, sym, ap, subst, Option, Some, None, Ok, Err}
use Rattle.mr_script.proofs.Names.{Answer, Event, Form, Happens, Mail, MayDraw, MayOpenSession, MayOpenStream, MayTake, Question, Sent, Stepped, WorldView}
use Rattle.mr_script.proofs.Names.{asked_in, option_map, ◌does◌}
use Rattle.mr_model.specs.Moment.{numbered}
use Rattle.mr_model.specs.declared.event.Act.TheVariants as act
use Rattle.mr_replica.specs.State.{State}
use Rattle.mr_replica.specs.Step.{Changes}
use Rattle.mr_replica.specs.Receive.{TakesBody, TakesLine}
use Rattle.mr_replica.specs.declared.event.Event.{Event as ReplicaEvent}
use Rattle.mr_replica.specs.declared.event.Event.TheVariants as replica
use Rattle.mr_replica.specs.declared.event.Reply.{Reply}
use Rattle.mr_replica.specs.declared.event.Reply.TheVariants as reply
use Rattle.mr_replica.specs.declared.refusal.Refusal.{Refusal}
use Rattle.mr_replica.proofs.Replies.{step_changes}
use Rattle.mr_madewith.specs.Revision.{Rev}
use Rattle.mr_wire.specs.Values.{DescentParts}
use Rattle.mr_wire.specs.declared.frame.Body.{Body}
use Rattle.mr_wire.specs.declared.frame.Body.TheVariants as body
use Rattle.mr_wire.specs.declared.frame.Frame.TheVariants as frame
use Rattle.mr_world.specs.Asked.{answering, receiving}
use Rattle.mr_world.specs.Does.{Does, StepsTo}
use Rattle.mr_world.specs.declared.task.Task.{Task}
use Rattle.mr_world.specs.declared.task.Task.TheVariants.{Step}
use Rattle.mr_world.proofs.Moving.Asking.{found, some_is}

module _ {K : Type 0} (form : Form K) where
  -- a step is answered by a reply, or refused
  answered : (there : ReplicaEvent) (s new : State K) (May : Answer → Type 0) (answer : Answer) → ((told : Reply) → Changes form s there told new → May (Stepped (Ok told)))
      → ((refusal : Refusal) → May (Stepped (Err refusal))) → StepsTo form there s answer new → May answer
  answered there s new May (Stepped (Ok told)) replied refused h = replied told (step_changes form s there told new h.1)
  answered there s new May (Stepped (Err refusal)) replied refused h = refused refusal
  answered there s new May answer replied refused h = absurd h

  -- where the act asks for an event of the replica, that is answered
  stepped : (w w' : WorldView K) (e : Event Mail) (there : ReplicaEvent) (May : Answer → Type 0) (answer : Answer) (h : Happens form w e answer w') → asked_in w e.act ≡ Some (Step there)
      → ((s new : State K) (told : Reply) → Changes form s there told new → May (Stepped (Ok told))) → ((refusal : Refusal) → May (Stepped (Err refusal))) → May answer
  stepped w w' e there May answer h is replied refused =
      let steps = (subst (λ (t : Task). Does form t h.old answer h.new) (some_is h.task (Step there) (sym h.asks ∙ is)) h.does).0 in
      answered there h.old.replica h.new.replica May answer (replied h.old.replica h.new.replica) refused steps

  -- ---- a pull

  pull_replies : (s new : State K) (told : Reply) → Changes form s replica.Pull told new → MayOpenSession (Stepped (Ok told))
  pull_replies s new (reply.Asked question) h = tt
  pull_replies s new told h = absurd h

  pub pull_answers : (w w' : WorldView K) (r : ℕ) (answer : Answer) → Happens form w (r does act.Pull) answer w' → MayOpenSession answer
  pull_answers w w' r answer h = stepped w w' (r does act.Pull) replica.Pull MayOpenSession answer h refl pull_replies (λ refusal. tt)

  -- ---- the answer to a request

  answer_replies : (question : Question) (s new : State K) (told : Reply) → Changes form s (replica.Answer question) told new → MayOpenStream (Stepped (Ok told))
  answer_replies question s new (reply.Streaming stream) h = tt
  answer_replies question s new told h = absurd h

  pub answer_answers : (w w' : WorldView K) (r n : ℕ) (answer : Answer) → Happens form w (r does act.Answer n) answer w' → MayOpenStream answer
  answer_answers w w' r n answer h =
      let asked = found answering (numbered w.asks n) h.task h.asks in
      stepped w w' (r does act.Answer n) (replica.Answer asked.0) MayOpenStream answer h (ap (λ (o : Option Question). option_map answering o) asked.1)
      (answer_replies asked.0) (λ refusal. tt)

  -- ---- a draw

  next_replies : (stream : ℕ) (s new : State K) (told : Reply) → Changes form s (replica.Next stream) told new → MayDraw (Stepped (Ok told))
  next_replies stream s new (reply.Gave sent) h = tt
  next_replies stream s new told h = absurd h

  pub next_answers : (w w' : WorldView K) (r stream : ℕ) (answer : Answer) → Happens form w (r does act.Next stream) answer w' → MayDraw answer
  next_answers w w' r stream answer h = stepped w w' (r does act.Next stream) (replica.Next stream) MayDraw answer h refl (next_replies stream) (λ refusal. tt)

  -- ---- a record that comes

  line_replies : (s new : State K) (sent : Sent) (line : DescentParts) (comer : Option Rev) (told : Reply) → TakesLine form s sent line comer told new → MayTake (Stepped (Ok told))
  line_replies s new sent line comer reply.Known h = tt
  line_replies s new sent line comer reply.Took h = tt
  line_replies s new sent line comer told h = absurd h

  body_replies : (s new : State K) (sent : Sent) (b : Body) (told : Reply) → TakesBody form s sent b told new → MayTake (Stepped (Ok told))
  body_replies s new sent (body.Item r) told h = line_replies s new sent _ _ told h
  body_replies s new sent (body.MoveOut line) told h = line_replies s new sent line None told h
  body_replies s new sent body.End reply.Finished h = tt
  body_replies s new sent (body.Start mode) reply.Took h = tt
  body_replies s new sent (body.Held vector) reply.Took h = tt
  body_replies s new sent (body.Know piece) reply.Took h = tt
  body_replies s new sent b told h = absurd h

  pub receive_answers : (w w' : WorldView K) (r n : ℕ) (answer : Answer) → Happens form w (r does act.Receive n) answer w' → MayTake answer
  receive_answers w w' r n answer h =
      let asked = found receiving (numbered w.records n) h.task h.asks in
      stepped w w' (r does act.Receive n) (replica.Receive (frame.Record asked.0)) MayTake answer h (ap (λ (o : Option Sent). option_map receiving o) asked.1)
      (λ s new. body_replies s new asked.0 asked.0.body) (λ refusal. tt)
