use Rattle.std.proofs.Common.{List, inl, refl, subst}
use Rattle.mr_node.proofs.Names.{LinkRan, Turn, wire_of}
use Rattle.mr_node.proofs.link_voice.LinkVoiceSpeakerEventAnswer.speak.Goals as goal

pub returns-clause-said : goal.returns-clause-said
returns-clause-said g c =
    let so = c.in_ok-take_turns.ensures.so in
    let tells = g.L.Link.tells in
    let guard = c.args.self.now.guard in (
      so.0,
      record {
        last = tells c.take_turns.new.wire.link;
        ran = subst (λ (ts : List Turn). LinkRan (g.G.Gate.closes guard.gate.now guard.link) ts (wire_of tells c.args.self.now.wire) so.0 (wire_of tells c.take_turns.new.wire)) c.deref.ensures.value so.1.0;
        let_pass = so.1.1;
        ends = inl refl;
      },
      so.2,
    )
