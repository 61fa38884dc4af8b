use Rattle.std.proofs.Common.{◌∙◌}
use Rattle.mr_compare.specs.NoteParts.{note_read}
use Rattle.mr_fold.proofs.StateLemmas.{shown_more}
use Rattle.mr_fold.proofs.state.shown_of.Goals as goal

pub loop-note-preserved : goal.loop-note-preserved
loop-note-preserved c =
    shown_more c.args.notes.now c.loop-note.note-index c.note-item.result c.loop-note.shown c.newer-shown.result c.in_ok-read.read c.loop-note-test.true c.note-item.is
    (c.in_ok-read.ensures.value ∙ (λ i. note_read (c.kind.ensures i) (c.bytes.ensures i))) c.newer-shown.ensures c.loop-note.invariant
