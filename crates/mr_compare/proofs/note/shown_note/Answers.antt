use Rattle.std.proofs.Common.{arith}
use Rattle.mr_compare.proofs.NoteLaws.{whole_stands}
use Rattle.mr_compare.proofs.note.shown_note.Goals as goal

pub returns : goal.returns
returns c = whole_stands c.new-input.result c.args.bytes.now c.shown_in.new.input c.in_ok-shown.shown c.as_note.result c.new-input.ensures c.in_ok-shown.ensures (omega arith) c.as_note.ensures
