-- What is said is what the host answered, or that a call was refused.
use Rattle.std.proofs.Common.{inl, refl, sym, [], ◌∷◌, Some, Ok}
use Rattle.mr_talk.proofs.Names.{Asks, Gives, Greets, option_copied}
use Rattle.mr_talk.proofs.HostLaws.{acts_one, ended_turn, not_fixed, refused_at, speaks_ask, speaks_freely, suits_err, suits_last}
use Rattle.mr_talk.proofs.meeting.Meeting.next_speech.Goals as goal

pub returns-in_err-hello-in-CallerGreets-clause-asked : goal.returns-in_err-hello-in-CallerGreets-clause-asked
returns-in_err-hello-in-CallerGreets-clause-asked g c =
    refused_at g.H.Host.steps _ c.args.host.now c.hello.new.self (λ x. Greets (option_copied c.as_ref.result) x) c.from_residual.result c.in_err-hello-in-CallerGreets.field-0.0 c.from_residual.ensures.1 c.in_err-hello-in-CallerGreets.ensures.step refl

pub returns-in_err-hello-in-CalledGreets-clause-asked : goal.returns-in_err-hello-in-CalledGreets-clause-asked
returns-in_err-hello-in-CalledGreets-clause-asked g c =
    refused_at g.H.Host.steps _ c.args.host.now c.hello-in-CalledGreets.new.self (λ x. Greets (option_copied c.as_ref-in-CalledGreets.result) x) c.from_residual-in_err-hello-in-CalledGreets.result c.in_err-hello-in-CalledGreets.field-0.0 c.from_residual-in_err-hello-in-CalledGreets.ensures.1
    c.in_err-hello-in-CalledGreets.ensures.step refl

pub returns-in_err-ask-in-CalledAsks-clause-asked : goal.returns-in_err-ask-in-CalledAsks-clause-asked
returns-in_err-ask-in-CalledAsks-clause-asked g c =
    refused_at g.H.Host.steps _ c.args.host.now c.ask.new.self (λ x. Asks x) c.from_residual-in_err-ask-in-CalledAsks.result c.in_err-ask-in-CalledAsks.field-0.0 c.from_residual-in_err-ask-in-CalledAsks.ensures.1 c.in_err-ask-in-CalledAsks.ensures.step refl

pub returns-in_err-message-in_default : goal.returns-in_err-message-in_default
returns-in_err-message-in_default g c = record {
  suits = suits_err _ c.from_residual-in_err-message-in_default.result c.in_err-message-in_default.field-0.0 c.from_residual-in_err-message-in_default.ensures.1;
  asked = refused_at g.H.Host.steps _ c.args.host.now c.next_message.new.self (λ x. Gives c.args.turn x) c.from_residual-in_err-message-in_default.result c.in_err-message-in_default.field-0.0 c.from_residual-in_err-message-in_default.ensures.1
      c.in_err-message-in_default.ensures.step refl;
}

pub returns-in_ok-hello-in-CallerGreets-clause-asked : goal.returns-in_ok-hello-in-CallerGreets-clause-asked
returns-in_ok-hello-in-CallerGreets-clause-asked g c =
    let h = c.in_ok-hello-in-CallerGreets.field-0 in
    let greets = Greets c.args.self.now.theirs (Ok h) in
    (greets ∷ [], acts_one g.H.Host.steps c.args.host.now c.hello.new.self greets (rw (sym c.as_ref.ensures.value) c.in_ok-hello-in-CallerGreets.ensures.step), rw c.in-CallerGreets.is (h, refl, refl))

pub returns-then-self-clause-asked : goal.returns-then-self-clause-asked
returns-then-self-clause-asked g c =
    let h = c.in_ok-hello-in-CalledGreets.hello in
    let greets = Greets c.args.self.now.theirs (Ok h) in
    (greets ∷ [], acts_one g.H.Host.steps c.args.host.now c.hello-in-CalledGreets.new.self greets (rw (sym c.as_ref-in-CalledGreets.ensures.value) c.in_ok-hello-in-CalledGreets.ensures.step), rw (c.in-CalledGreets.is, c.if-self.true) (h, refl, refl))

pub returns-else-self-clause-asked : goal.returns-else-self-clause-asked
returns-else-self-clause-asked g c =
    let h = c.in_ok-hello-in-CalledGreets.hello in
    let greets = Greets c.args.self.now.theirs (Ok h) in
    (greets ∷ [], acts_one g.H.Host.steps c.args.host.now c.hello-in-CalledGreets.new.self greets (rw (sym c.as_ref-in-CalledGreets.ensures.value) c.in_ok-hello-in-CalledGreets.ensures.step), rw (c.in-CalledGreets.is, c.if-self.false) (h, refl, refl))

pub returns-in_ok-ask-in-CalledAsks-clause-asked : goal.returns-in_ok-ask-in-CalledAsks-clause-asked
returns-in_ok-ask-in-CalledAsks-clause-asked g c =
    let bytes = c.in_ok-ask-in-CalledAsks.field-0 in
    (Asks (Ok bytes) ∷ [], acts_one g.H.Host.steps c.args.host.now c.ask.new.self (Asks (Ok bytes)) c.in_ok-ask-in-CalledAsks.ensures.step, speaks_ask _ c.args.turn bytes (Asks (Ok bytes) ∷ []) c.in-CalledAsks.is refl)

pub returns-in-Some : goal.returns-in-Some
returns-in-Some g c =
    let d = c.in_default in
    let offer = Gives c.args.turn (Ok (Some c.in-Some.message)) ∷ [] in
    record {
      suits = not_fixed c.args.turn d.not-CallerGreets d.not-CalledGreets d.not-CalledAsks d.not-CalledPasses d.not-CallerAsks;
      asked = (
        offer,
        acts_one g.H.Host.steps c.args.host.now c.next_message.new.self (Gives c.args.turn (Ok (Some c.in-Some.message))) (rw (sym c.in-Some.is) c.in_ok-message-in_default.ensures.step),
        speaks_freely _ c.args.turn c.in-Some.message offer d.not-CallerGreets d.not-CalledGreets d.not-CalledAsks d.not-CalledPasses d.not-CallerAsks (inl refl),
      );
    }

pub returns-in-None : goal.returns-in-None
returns-in-None g c =
    let d = c.in_default in
    record {
      suits = suits_last c.args.turn c.last_speech.result (not_fixed c.args.turn d.not-CallerGreets d.not-CalledGreets d.not-CalledAsks d.not-CalledPasses d.not-CallerAsks) c.last_speech.ensures.last;
      asked = ended_turn g.H.Host.steps _ c.args.turn c.args.host.now c.next_message.new.self c.last_speech.new.host c.last_speech.result (rw (sym c.in-None.is) c.in_ok-message-in_default.ensures.step) c.last_speech.ensures.asked
          (λ m acts o. speaks_freely _ c.args.turn m acts d.not-CallerGreets d.not-CalledGreets d.not-CalledAsks d.not-CalledPasses d.not-CallerAsks o);
    }
