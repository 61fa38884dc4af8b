use Rattle.std.proofs.Common.{Err, subst, sym}
use Rattle.mr_link.proofs.Names.{Spells, WritesFrame, wire_of}
use Rattle.mr_wire.specs.declared.frame.Frame.TheVariants as frame
use Rattle.mr_link.proofs.Reading.{frame_unsent}
use Rattle.mr_link.proofs.wire.Wire.send_record.Goals as goal

pub returns-in-Ok-clause-written : goal.returns-in-Ok-clause-written
returns-in-Ok-clause-written g c =
    c.send_bytes.ensures.written 2 (frame.Record c.args.sent.now) (subst (λ bytes. Spells 2 (frame.Record c.args.sent.now) bytes) (sym c.deref.ensures.value) c.in-Ok.ensures.spelled)

pub returns-in-Err-clause-written : goal.returns-in-Err-clause-written
returns-in-Err-clause-written g c =
    let w = wire_of g.L.Link.tells c.args.self.now in
    subst (λ s. WritesFrame w (frame.Record c.args.sent.now) (Err s) w) (sym c.snag_of_encoding.ensures)
    (frame_unsent w (frame.Record c.args.sent.now) c.in-Err.fault c.in-Err.ensures.exact)
