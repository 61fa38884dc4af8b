use Rattle.mr_node.proofs.Moving.{reads_none_too_long}
use Rattle.std.proofs.Common.{[], ◌∷◌, refl, subst}
use Rattle.mr_node.proofs.Names.{Frame, PassesWell, wire_of}
use Rattle.mr_node.proofs.next_move.fetch_receipt.Goals as goal

pub returns-in-Receipt : goal.returns-in-Receipt
returns-in-Receipt g c = λ may. (
  (c.in-Receipt.receipt, refl),
  subst (λ (f : Frame). PassesWell (wire_of g.L.Link.tells c.args.wire.now) (f ∷ []) [] (wire_of g.L.Link.tells c.read_frame.new.self)) c.in-Receipt.is c.in-Ok.ensures,
)

pub unread-requires : goal.unread-requires
unread-requires g c = reads_none_too_long (wire_of g.L.Link.tells c.args.wire.now) c.in-Err.snag (wire_of g.L.Link.tells c.read_frame.new.self) c.in-Err.ensures
