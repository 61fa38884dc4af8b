-- Each iteration adds the message that was said or heard, and what was asked of the host for it.
use Rattle.std.proofs.Common.{◌≡◌, Some, [], inr, arith, refl, sym, ap, ◌∙◌}
use Rattle.mr_talk.proofs.Names.{Appends-nil, Consumes-nil, Failed, Turn, other, sender_of}
use Rattle.mr_talk.specs.Line.{ahead}
use Rattle.mr_talk.proofs.CauseLaws.{ended_here, ended_ungiven, ended_unheard, ended_unsaid, ended_untaken, ends_whole, fails_by_fault, played_whole}
use Rattle.mr_talk.proofs.HostLaws.{acts_keep}
use Rattle.mr_talk.proofs.LineLaws.{holds_on_err, if_err}
use Rattle.mr_talk.proofs.ServedLaws.{goes_heard, goes_said, served_nothing}
use Rattle.mr_talk.proofs.TalkLaws.{is_own, is_others, broke_between, broke_partly}
use Rattle.mr_talk.proofs.talk.run_talk.Goals as goal
use Rattle.mr_talk.proofs.talk.run_talk.Goals.{then-eq+in_ok-message+in_ok-turn, else-eq+in_ok-message-2+in_ok-take}

pub messages-init : goal.messages-init
messages-init g c =
    ((record { messages = []; runs = refl; sent = Appends-nil _; came = Consumes-nil _ }, refl, served_nothing g.H.Host.steps c.args.role c.args.host.now c.new-meeting.result c.new-meeting.ensures), λ e. absurd cc)

pub messages-preserved : goal.messages-preserved
messages-preserved g c =
    let role = c.args.role in
    let turn = c.messages.turn in
    let steps = g.H.Host.steps in
    let sent = g.W.Write.contents c.args.line.now.output in
    let sent_now = g.W.Write.contents c.messages.line.output in
    let came = ahead c.args.line.now.reader (g.R.Read.remaining c.args.line.now.input) in
    let came_now = ahead c.messages.line.reader (g.R.Read.remaining c.messages.line.input) in
    elim c.if-eq.branch [
      | then-eq+in_ok-message+in_ok-turn w ↦
          let mine : sender_of turn ≡ Some role = is_own role c.in-Some.sender (sender_of turn) (sym c.sender.ensures ∙ c.in-Some.is) w.if-eq.ensures in
          let one = goes_said steps role turn w.in_ok-turn.turn sent sent_now (g.W.Write.contents w.say.new.line.output) came came_now w.in_ok-message.message c.messages.meeting w.next_message.new.self c.args.host.now c.messages.host w.next_message.new.host w.say.new.host
          c.messages.counter c.messages.invariant.0 mine w.in_ok-turn.ensures.next w.in_ok-turn.ensures.sent w.in_ok-message.ensures.voiced w.in_ok-turn.ensures.kept in
          let broken = λ (e : w.in_ok-turn.turn ≡ Failed). w.in_ok-message.ensures.broken (fails_by_fault turn w.in_ok-message.message.kind (w.in_ok-turn.ensures.next ∙ ap (λ (x : Turn). Some x) e)) in
          rw (w.turn-is, w.line-is, w.meeting-is, w.host-is, w.in_ok-turn.ensures.reader, w.in_ok-turn.ensures.input) (one, broken)
      | else-eq+in_ok-message-2+in_ok-take w ↦
          let theirs : sender_of turn ≡ Some (other role) = is_others role c.in-Some.sender (sender_of turn) (sym c.sender.ensures ∙ c.in-Some.is) w.if-eq.ensures in
          let came_then = ahead w.hear.new.line.reader (g.R.Read.remaining w.hear.new.line.input) in
          let one = goes_heard steps role turn w.in_ok-message-2.next sent sent_now came came_now came_then w.in_ok-message-2.message c.messages.meeting w.take.new.self c.args.host.now c.messages.host w.take.new.host
          c.messages.counter c.messages.invariant.0 theirs w.in_ok-message-2.ensures.heard.0 w.in_ok-message-2.ensures.heard.1 w.in_ok-take.ensures.taken_in in
          let goes_on = λ (e : w.in_ok-message-2.next ≡ Failed). absurd (w.in_ok-take.ensures.taken (fails_by_fault turn w.in_ok-message-2.message.kind (w.in_ok-message-2.ensures.heard.0 ∙ ap (λ (x : Turn). Some x) e))) in
          rw (w.turn-is, w.line-is, w.meeting-is, w.host-is, w.in_ok-message-2.ensures.output) (one, goes_on)
    ]

pub returns-in_default-clause-whole : goal.returns-in_default-clause-whole
returns-in_default-clause-whole g c =
    ends_whole c.end.result c.args.role c.messages.turn _ _ _ _ c.messages.invariant.0.0 (sym c.sender.ensures ∙ c.in_default.is) c.messages.invariant.1 c.end.ensures.whole

pub returns-in_default-clause-played : goal.returns-in_default-clause-played
returns-in_default-clause-played g c =
    played_whole g.H.Host.steps c.end.result c.args.role c.messages.turn _ _ _ _ c.messages.meeting c.args.host.now c.messages.host c.end.new.host c.messages.invariant.0.0 c.messages.invariant.0.2 (sym c.sender.ensures ∙ c.in_default.is) c.messages.invariant.1
    c.end.ensures.whole c.end.ensures.ended

pub returns-in_default-clause-broke_off : goal.returns-in_default-clause-broke_off
returns-in_default-clause-broke_off g c =
    holds_on_err c.end.result (broke_between c.args.role c.messages.turn _ _ _ _ c.messages.invariant.0.0)

pub returns-in_default-clause-cause : goal.returns-in_default-clause-cause
returns-in_default-clause-cause g c =
    ended_here g.H.Host.steps c.args.role c.messages.turn _ _ _ _ c.messages.meeting c.args.host.now c.messages.host c.end.new.host c.end.result c.messages.invariant.0.0 c.messages.invariant.0.2 (sym c.sender.ensures ∙ c.in_default.is) c.end.ensures.ended

pub returns-in_err-message-clause-broke_off : goal.returns-in_err-message-clause-broke_off
returns-in_err-message-clause-broke_off g c =
    holds_on_err c.from_residual.result (broke_between c.args.role c.messages.turn _ _ _ _ c.messages.invariant.0.0)

pub returns-in_err-message-clause-cause : goal.returns-in_err-message-clause-cause
returns-in_err-message-clause-cause g c =
    let mine : sender_of c.messages.turn ≡ Some c.args.role = is_own c.args.role c.in-Some.sender (sender_of c.messages.turn) (sym c.sender.ensures ∙ c.in-Some.is) c.if-eq.ensures in
    if_err _ c.from_residual.result c.in_err-message.field-0.0 c.from_residual.ensures.1
    (ended_ungiven g.H.Host.steps c.args.role c.messages.turn _ _ _ _ c.messages.meeting c.next_message.new.self c.args.host.now c.messages.host c.next_message.new.host c.in_err-message.field-0.0 c.messages.invariant.0.0 c.messages.invariant.0.2 mine
    c.in_err-message.ensures.voiced c.in_err-message.ensures.fault)

pub returns-in_err-turn-clause-broke_off : goal.returns-in_err-turn-clause-broke_off
returns-in_err-turn-clause-broke_off g c =
    let came = ahead c.args.line.now.reader (g.R.Read.remaining c.args.line.now.input) in
    let came_now = ahead c.messages.line.reader (g.R.Read.remaining c.messages.line.input) in
    let role = c.args.role in
    let mine : sender_of c.messages.turn ≡ Some role = is_own role c.in-Some.sender (sender_of c.messages.turn) (sym c.sender.ensures ∙ c.in-Some.is) c.if-eq.ensures in
    holds_on_err c.from_residual-in_err-turn.result
    (broke_partly role c.messages.turn (g.W.Write.contents c.args.line.now.output) (g.W.Write.contents c.messages.line.output) (g.W.Write.contents c.say.new.line.output) came came_now c.in_ok-message.message c.messages.invariant.0.0 mine c.in_err-turn.ensures.part)

pub returns-in_err-turn-clause-cause : goal.returns-in_err-turn-clause-cause
returns-in_err-turn-clause-cause g c =
    let sent = g.W.Write.contents c.args.line.now.output in
    let sent_now = g.W.Write.contents c.messages.line.output in
    let came = ahead c.args.line.now.reader (g.R.Read.remaining c.args.line.now.input) in
    let came_now = ahead c.messages.line.reader (g.R.Read.remaining c.messages.line.input) in
    let mine : sender_of c.messages.turn ≡ Some c.args.role = is_own c.args.role c.in-Some.sender (sender_of c.messages.turn) (sym c.sender.ensures ∙ c.in-Some.is) c.if-eq.ensures in
    let same : ahead c.say.new.line.reader (g.R.Read.remaining c.say.new.line.input) ≡ came_now = rw (c.in_err-turn.ensures.reader, c.in_err-turn.ensures.input) refl in
    if_err _ c.from_residual-in_err-turn.result c.in_err-turn.field-0.0 c.from_residual-in_err-turn.ensures.1
    (ended_unsaid g.H.Host.steps c.args.role c.messages.turn c.in_ok-message.message sent sent_now (g.W.Write.contents c.say.new.line.output) came came_now (ahead c.say.new.line.reader (g.R.Read.remaining c.say.new.line.input)) c.messages.meeting c.next_message.new.self c.args.host.now c.messages.host
    c.next_message.new.host c.say.new.host same c.in_err-turn.field-0.0 c.messages.invariant.0.0 c.messages.invariant.0.2 mine c.in_ok-message.ensures.voiced c.in_ok-message.ensures.place c.in_err-turn.ensures.fault c.in_err-turn.ensures.kept)

pub returns-in_err-message-2-clause-broke_off : goal.returns-in_err-message-2-clause-broke_off
returns-in_err-message-2-clause-broke_off g c =
    holds_on_err c.from_residual-in_err-message-2.result (rw c.in_err-message-2.ensures.output (broke_between c.args.role c.messages.turn _ _ _ _ c.messages.invariant.0.0))

pub returns-in_err-message-2-clause-cause : goal.returns-in_err-message-2-clause-cause
returns-in_err-message-2-clause-cause g c =
    let sent = g.W.Write.contents c.args.line.now.output in
    let sent_now = g.W.Write.contents c.messages.line.output in
    let came = ahead c.args.line.now.reader (g.R.Read.remaining c.args.line.now.input) in
    let came_now = ahead c.messages.line.reader (g.R.Read.remaining c.messages.line.input) in
    let theirs : sender_of c.messages.turn ≡ Some (other c.args.role) = is_others c.args.role c.in-Some.sender (sender_of c.messages.turn) (sym c.sender.ensures ∙ c.in-Some.is) c.if-eq.ensures in
    let same : g.W.Write.contents c.hear.new.line.output ≡ sent_now = rw c.in_err-message-2.ensures.output refl in
    if_err _ c.from_residual-in_err-message-2.result c.in_err-message-2.field-0.0 c.from_residual-in_err-message-2.ensures.1
    (ended_unheard g.H.Host.steps c.args.role c.messages.turn sent sent_now (g.W.Write.contents c.hear.new.line.output) c.messages.meeting c.args.host.now c.messages.host same came came_now (ahead c.hear.new.line.reader (g.R.Read.remaining c.hear.new.line.input)) c.in_err-message-2.field-0.0 c.messages.invariant.0.0 c.messages.invariant.0.2 theirs c.in_err-message-2.ensures.fault)

pub returns-in_err-take-clause-broke_off : goal.returns-in_err-take-clause-broke_off
returns-in_err-take-clause-broke_off g c =
    holds_on_err c.from_residual-in_err-take.result (rw c.in_ok-message-2.ensures.output (broke_between c.args.role c.messages.turn _ _ _ _ c.messages.invariant.0.0))

pub returns-in_err-take-clause-cause : goal.returns-in_err-take-clause-cause
returns-in_err-take-clause-cause g c =
    let sent = g.W.Write.contents c.args.line.now.output in
    let sent_now = g.W.Write.contents c.messages.line.output in
    let came = ahead c.args.line.now.reader (g.R.Read.remaining c.args.line.now.input) in
    let came_now = ahead c.messages.line.reader (g.R.Read.remaining c.messages.line.input) in
    let theirs : sender_of c.messages.turn ≡ Some (other c.args.role) = is_others c.args.role c.in-Some.sender (sender_of c.messages.turn) (sym c.sender.ensures ∙ c.in-Some.is) c.if-eq.ensures in
    let same : g.W.Write.contents c.hear.new.line.output ≡ sent_now = rw c.in_ok-message-2.ensures.output refl in
    if_err _ c.from_residual-in_err-take.result c.in_err-take.field-0.0 c.from_residual-in_err-take.ensures.1
    (ended_untaken g.H.Host.steps c.args.role c.messages.turn c.in_ok-message-2.next c.in_ok-message-2.message sent sent_now (g.W.Write.contents c.hear.new.line.output) c.messages.meeting c.take.new.self c.args.host.now c.messages.host c.take.new.host same came came_now (ahead c.hear.new.line.reader (g.R.Read.remaining c.hear.new.line.input)) c.in_err-take.field-0.0
    c.messages.invariant.0.0 c.messages.invariant.0.2 theirs c.in_ok-message-2.ensures.heard.0 c.in_ok-message-2.ensures.heard.1 c.in_err-take.ensures.fault c.in_err-take.ensures.taken_in)

pub returns-clause-broke_off : goal.returns-clause-broke_off
returns-clause-broke_off g c =
    broke_between c.args.role c.messages.turn _ _ _ _ c.messages.invariant.0.0

pub returns-clause-cause : goal.returns-clause-cause
returns-clause-cause g c =
    let served = c.messages.invariant.0.2 in
    (served.acts, served.leads, inr (inr (record { turn = c.messages.turn; talked = c.messages.invariant.0.0; many = c.messages.invariant.0.1 ∙ omega (arith, c.messages-test.false, c.messages.auto.counter-end) })))

pub returns-in_default-clause-keeps : goal.returns-in_default-clause-keeps
returns-in_default-clause-keeps g c =
    g.met.H.Host.keeps_on c.args.host.now c.messages.host c.end.new.host
    (acts_keep g.H.Host.steps g.H.Host.keeps g.met.H.Host.keeps_still g.met.H.Host.keeps_on g.met.H.Host.keeps_step c.args.host.now c.messages.host c.messages.invariant.0.2.acts c.messages.invariant.0.2.leads)
    (acts_keep g.H.Host.steps g.H.Host.keeps g.met.H.Host.keeps_still g.met.H.Host.keeps_on g.met.H.Host.keeps_step c.messages.host c.end.new.host c.end.ensures.ended.0 c.end.ensures.ended.1)

pub returns-in_err-message-clause-keeps : goal.returns-in_err-message-clause-keeps
returns-in_err-message-clause-keeps g c =
    g.met.H.Host.keeps_on c.args.host.now c.messages.host c.next_message.new.host
    (acts_keep g.H.Host.steps g.H.Host.keeps g.met.H.Host.keeps_still g.met.H.Host.keeps_on g.met.H.Host.keeps_step c.args.host.now c.messages.host c.messages.invariant.0.2.acts c.messages.invariant.0.2.leads)
    (acts_keep g.H.Host.steps g.H.Host.keeps g.met.H.Host.keeps_still g.met.H.Host.keeps_on g.met.H.Host.keeps_step c.messages.host c.next_message.new.host c.in_err-message.ensures.voiced.acts c.in_err-message.ensures.voiced.leads)

pub returns-in_err-turn-clause-keeps : goal.returns-in_err-turn-clause-keeps
returns-in_err-turn-clause-keeps g c =
    g.met.H.Host.keeps_on c.args.host.now c.messages.host c.say.new.host
    (acts_keep g.H.Host.steps g.H.Host.keeps g.met.H.Host.keeps_still g.met.H.Host.keeps_on g.met.H.Host.keeps_step c.args.host.now c.messages.host c.messages.invariant.0.2.acts c.messages.invariant.0.2.leads)
    (g.met.H.Host.keeps_on c.messages.host c.next_message.new.host c.say.new.host
    (acts_keep g.H.Host.steps g.H.Host.keeps g.met.H.Host.keeps_still g.met.H.Host.keeps_on g.met.H.Host.keeps_step c.messages.host c.next_message.new.host c.in_ok-message.ensures.voiced.acts c.in_ok-message.ensures.voiced.leads)
    (acts_keep g.H.Host.steps g.H.Host.keeps g.met.H.Host.keeps_still g.met.H.Host.keeps_on g.met.H.Host.keeps_step c.next_message.new.host c.say.new.host c.in_err-turn.ensures.kept.0 c.in_err-turn.ensures.kept.1))

pub returns-in_err-message-2-clause-keeps : goal.returns-in_err-message-2-clause-keeps
returns-in_err-message-2-clause-keeps g c =
    acts_keep g.H.Host.steps g.H.Host.keeps g.met.H.Host.keeps_still g.met.H.Host.keeps_on g.met.H.Host.keeps_step c.args.host.now c.messages.host c.messages.invariant.0.2.acts c.messages.invariant.0.2.leads

pub returns-in_err-take-clause-keeps : goal.returns-in_err-take-clause-keeps
returns-in_err-take-clause-keeps g c =
    g.met.H.Host.keeps_on c.args.host.now c.messages.host c.take.new.host
    (acts_keep g.H.Host.steps g.H.Host.keeps g.met.H.Host.keeps_still g.met.H.Host.keeps_on g.met.H.Host.keeps_step c.args.host.now c.messages.host c.messages.invariant.0.2.acts c.messages.invariant.0.2.leads)
    (acts_keep g.H.Host.steps g.H.Host.keeps g.met.H.Host.keeps_still g.met.H.Host.keeps_on g.met.H.Host.keeps_step c.messages.host c.take.new.host c.in_err-take.ensures.taken_in.acts c.in_err-take.ensures.taken_in.leads)

pub returns-clause-keeps : goal.returns-clause-keeps
returns-clause-keeps g c =
    acts_keep g.H.Host.steps g.H.Host.keeps g.met.H.Host.keeps_still g.met.H.Host.keeps_on g.met.H.Host.keeps_step c.args.host.now c.messages.host c.messages.invariant.0.2.acts c.messages.invariant.0.2.leads
