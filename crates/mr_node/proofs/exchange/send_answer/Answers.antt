use Rattle.mr_node.proofs.Names.{reply_frame, wire_of}
use Rattle.mr_node.proofs.Sending.{sends_no_bad_frame}
use Rattle.mr_node.proofs.exchange.send_answer.Goals as goal

pub unsent-requires : goal.unsent-requires
unsent-requires g c = sends_no_bad_frame (wire_of g.L.Link.tells c.args.wire.now) (reply_frame c.in-Ok.reply) c.in-Err-send_reply.snag (wire_of g.L.Link.tells c.send_reply.new.wire) c.in-Err-send_reply.ensures
