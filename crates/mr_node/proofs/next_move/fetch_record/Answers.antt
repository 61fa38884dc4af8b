use Rattle.mr_node.proofs.Moving.{reads_none_too_long}
use Rattle.mr_node.proofs.Names.{Halt, LetsMove, Move, wire_of}
use Rattle.std.proofs.Common.{◌+◌, IfOk, subst, sym, Result}
use Rattle.mr_node.proofs.Letting.{unread_let}
use Rattle.mr_node.proofs.next_move.fetch_record.Goals as goal

pub returns-in-Err-clause-let_pass : goal.returns-in-Err-clause-let_pass
returns-in-Err-clause-let_pass g c =
    let guard = c.args.guard.now in
    let P = g.G.Gate.has_let guard.gate.now guard.link (guard.posted + 1) in
    subst (λ (r : Result Move Halt). IfOk r (λ m. LetsMove P m)) (sym c.unread.ensures) (unread_let P c.in-Err.snag)

pub unread-requires : goal.unread-requires
unread-requires g c = reads_none_too_long (wire_of g.L.Link.tells c.args.wire.now) c.in-Err.snag (wire_of g.L.Link.tells c.read_frame.new.self) c.in-Err.ensures
