use Rattle.mr_compare.proofs.NoteLaws.{is_spelled, is_read, is_found}
use Rattle.mr_compare.proofs.note.read_note.Goals as goal

pub returns : goal.returns
returns c = record {
  value = is_read c.args.kind c.args.bytes.now c.note_in.result c.note_in.ensures c.kept_note.result c.kept_note.ensures;
  written = is_spelled c.args.kind c.args.bytes.now c.note_in.result c.note_in.ensures c.kept_note.result c.kept_note.ensures;
  whole = λ n h. is_found c.args.kind c.args.bytes.now c.note_in.result c.note_in.ensures c.kept_note.result c.kept_note.ensures n h;
}
