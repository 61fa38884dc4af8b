use Rattle.std.proofs.Common.{ap}
use Rattle.mr_node.proofs.Names.{reply_frame, wire_of}
use Rattle.mr_node.proofs.Sending.{nothing_to_send}
use Rattle.mr_node.proofs.exchange.send_reply.Goals as goal

pub returns-in-Issued : goal.returns-in-Issued
returns-in-Issued g c = nothing_to_send (wire_of g.L.Link.tells c.args.wire.now) c.args.reply.now (ap reply_frame c.in-Issued.is) c.requires.unread

pub returns-in-Done : goal.returns-in-Done
returns-in-Done g c = nothing_to_send (wire_of g.L.Link.tells c.args.wire.now) c.args.reply.now (ap reply_frame c.in-Done.is) c.requires.unread

pub returns-in-Streaming : goal.returns-in-Streaming
returns-in-Streaming g c = nothing_to_send (wire_of g.L.Link.tells c.args.wire.now) c.args.reply.now (ap reply_frame c.in-Streaming.is) c.requires.unread

pub returns-in-Took : goal.returns-in-Took
returns-in-Took g c = nothing_to_send (wire_of g.L.Link.tells c.args.wire.now) c.args.reply.now (ap reply_frame c.in-Took.is) c.requires.unread

pub returns-in-Known : goal.returns-in-Known
returns-in-Known g c = nothing_to_send (wire_of g.L.Link.tells c.args.wire.now) c.args.reply.now (ap reply_frame c.in-Known.is) c.requires.unread

pub returns-in-Finished : goal.returns-in-Finished
returns-in-Finished g c = nothing_to_send (wire_of g.L.Link.tells c.args.wire.now) c.args.reply.now (ap reply_frame c.in-Finished.is) c.requires.unread
