use Rattle.std.proofs.Common.{Err, ap, arith, subst, sym}
use Rattle.mr_link.proofs.Names.{Spells, WritesFrame, wire_of}
use Rattle.mr_wire.specs.declared.frame.Frame.TheVariants as frame
use Rattle.mr_link.proofs.Reading.{frame_unsent, unsent_too_long}
use Rattle.mr_link.proofs.wire.Wire.send_ask.Goals as goal

pub returns-in-Ok-clause-written : goal.returns-in-Ok-clause-written
returns-in-Ok-clause-written g c =
    c.send_bytes.ensures.written 2 (frame.Ask c.args.ask.now) (subst (λ bytes. Spells 2 (frame.Ask c.args.ask.now) bytes) (sym c.deref.ensures.value) c.in-Ok.ensures.spelled)

pub returns-in-Err-clause-written : goal.returns-in-Err-clause-written
returns-in-Err-clause-written g c =
    let w = wire_of g.L.Link.tells c.args.self.now in
    subst (λ s. WritesFrame w (frame.Ask c.args.ask.now) (Err s) w) (sym c.snag_of_encoding.ensures)
    (frame_unsent w (frame.Ask c.args.ask.now) c.in-Err.fault c.in-Err.ensures.exact)

pub returns-in-Ok-clause-too_long : goal.returns-in-Ok-clause-too_long
returns-in-Ok-clause-too_long g c = let short = c.in-Ok.ensures.exact.1 in (λ e. absurd (c.send_bytes.ensures.short e), λ long. absurd (omega (arith, short, long)))

pub returns-in-Err-clause-too_long : goal.returns-in-Err-clause-too_long
returns-in-Err-clause-too_long g c = unsent_too_long (frame.Ask c.args.ask.now) c.in-Err.fault (Err c.snag_of_encoding.result) (ap Err c.snag_of_encoding.ensures) c.in-Err.ensures.exact
