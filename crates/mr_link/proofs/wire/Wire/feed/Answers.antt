use Rattle.mr_link.proofs.Reading.{hands_all, holds_piece}
use Rattle.mr_link.proofs.wire.Wire.feed.Goals as goal

pub returns-in-Ok : goal.returns-in-Ok
returns-in-Ok g c = hands_all c.args.self.now c.feed.new.self c.args.piece c.deref.result.now c.requires.reader c.requires.held c.deref.ensures.value c.in-Ok.ensures

pub returns-in-Err : goal.returns-in-Err
returns-in-Err g c = holds_piece c.args.self.now c.feed.new.self c.args.piece c.deref.result.now c.in-Err.field-0 c.requires.reader c.deref.ensures.value c.in-Err.ensures
