use Rattle.std.proofs.Common.{inr}
use Rattle.mr_node.proofs.Linking.{hangs_up_behind}
use Rattle.mr_node.proofs.link_voice.LinkVoiceSpeakerEventAnswer.hang_up.Goals as goal

pub returns-clause-said : goal.returns-clause-said
returns-clause-said g c = λ old xs said. record {
  last = said.last;
  ran = said.ran;
  let_pass = said.let_pass;
  ends = inr (hangs_up_behind g.L.Link.tells g.L.Link.hung_up_at said.last c.args.self.now.wire.link c.hang_up.new.self c.hang_up.ensures.hung_up c.hang_up.ensures.told c.hang_up.ensures.kept said.ends);
}
