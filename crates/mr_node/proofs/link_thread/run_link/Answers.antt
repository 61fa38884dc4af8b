use Rattle.std.proofs.Common.{Bool, subst, ap, ◌∙◌}
use Rattle.std.specs.Prelude.{IsTrue}
use Rattle.mr_node.proofs.Names.{IsVoiceOf, Sender}
use Rattle.mr_node.proofs.Linking.{said_turns, said_in_turn, voice_last}
use Rattle.mr_node.proofs.link_thread.run_link.Goals as goal

pub returns-clause-said : goal.returns-clause-said
returns-clause-said g c = λ whole.
    let e = c.link_end.ensures in
    said_turns g.L.Link.tells g.L.Link.hung_up_at g.G.Gate.closes g.G.Gate.has_let c.args.gate.now c.args.turns c.args.parts c.new.result c.run_voice.result.voice c.link_end.result
    (subst (λ (s : Sender). IsVoiceOf c.args.gate.now s c.args.parts.link c.args.turns c.new.result) c.sender-sender.ensures c.new.ensures)
    (c.run_voice.ensures.ran.spoken (subst (λ (b : Bool). IsTrue b) e.whole whole)) c.run_voice.ensures.hung_up
    e.post e.tap e.replies e.link

pub returns-clause-hung_up_last : goal.returns-clause-hung_up_last
returns-clause-hung_up_last g c = λ whole.
    let e = c.link_end.ensures in
    let h = c.run_voice.ensures.ran.spoken (subst (λ (b : Bool). IsTrue b) e.whole whole) in
    voice_last g.L.Link.tells g.L.Link.hung_up_at g.G.Gate.closes g.G.Gate.has_let c.args.gate.now c.args.parts.post.sender c.args.parts.link c.args.turns c.new.result h.conversation c.run_voice.result.voice.speaker c.link_end.result.link
    (subst (λ (s : Sender). IsVoiceOf c.args.gate.now s c.args.parts.link c.args.turns c.new.result) c.sender-sender.ensures c.new.ensures)
    h.spoke c.run_voice.ensures.hung_up e.link

pub returns-clause-in_turn : goal.returns-clause-in_turn
returns-clause-in_turn g c = said_in_turn c.run_voice.result.voice c.link_end.result c.run_voice.ensures.in_turn c.link_end.ensures.post c.link_end.ensures.tap

pub returns-clause-hung_up : goal.returns-clause-hung_up
returns-clause-hung_up g c = ap (λ l. (g.L.Link.tells l).hung_up) c.link_end.ensures.link ∙ c.run_voice.ensures.hung_up
