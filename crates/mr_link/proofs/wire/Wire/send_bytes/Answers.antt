use Rattle.std.proofs.Common.{Err, subst, sym}
use Rattle.mr_link.specs.Wire.{wire_of, WritesFrame}
use Rattle.mr_link.proofs.Reading.{wired, bytes_sent, bytes_lost}
use Rattle.mr_link.proofs.wire.Wire.send_bytes.Goals as goal

pub returns-in-Ok-clause-written : goal.returns-in-Ok-clause-written
returns-in-Ok-clause-written g c =
    let w = c.args.self.now in
    bytes_sent g.L.Link.tells w.link c.send.new.self w.reader w.held c.args.bytes.now c.in-Ok.field-0 c.requires.unread c.in-Ok.ensures.sends

pub returns-in-Err-clause-written : goal.returns-in-Err-clause-written
returns-in-Err-clause-written g c = λ format f spelled.
    let w = c.args.self.now in
    let tells = g.L.Link.tells in
    subst (λ s. WritesFrame (wire_of tells w) f (Err s) (wired tells c.send.new.self w.reader w.held)) (sym c.snag_of_link.ensures)
    (bytes_lost tells w.link c.send.new.self w.reader w.held c.args.bytes.now c.in-Err.fault c.requires.unread c.in-Err.ensures.sends f)
