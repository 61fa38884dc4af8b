use Rattle.mr_node.proofs.Moving.{reads_none_too_long}
use Rattle.mr_link.specs.Wire.{wire_of}
use Rattle.mr_node.proofs.next_move.fetch_request.Goals as goal

pub unread-requires : goal.unread-requires
unread-requires g c = reads_none_too_long (wire_of g.L.Link.tells c.args.wire.now) c.in-Err.snag (wire_of g.L.Link.tells c.read_frame.new.self) c.in-Err.ensures
