use Rattle.std.proofs.Common.{◌∙◌, ap}
use Rattle.mr_threads.proofs.Speaking.{said_so, spoke_in_turn}
use Rattle.mr_threads.proofs.voice.run_voice.Goals as goal

pub returns-clause-in_turn : goal.returns-clause-in_turn
returns-clause-in_turn g c =
    let said = said_so g.S.Speaker.speaks c.args.voice.speaker c.speak-said.new.self c.speak-said.result c.args.voice.talk c.speak-said.new.talk c.speak-said.ensures.said c.speak-said.ensures.in_turn in
    let heard = c.hear_out-heard.ensures in
    spoke_in_turn c.args.voice.talk c.speak-said.new.talk c.hear_out-heard.new.talk heard.passed.0 c.requires.new said (ap (λ p. p.sent) heard.post ∙ ap (λ p. p.sent) c.finish.ensures) heard.passed.1
