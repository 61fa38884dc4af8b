use Rattle.std.proofs.Common.{◌∙◌}
use Rattle.mr_compare.specs.NoteParts.{note_read}
use Rattle.mr_fold.proofs.StateLemmas.{met_more}
use Rattle.mr_fold.proofs.state.meetings_of.Goals as goal

pub loop-note-preserved : goal.loop-note-preserved
loop-note-preserved c =
    met_more c.args.notes.now c.loop-note.note-index c.note-item.result c.loop-note.meetings.entries c.meet.new.meetings.entries c.in_ok-read.read c.loop-note-test.true c.note-item.is
    (c.in_ok-read.ensures.value ∙ (λ i. note_read (c.kind.ensures i) (c.bytes.ensures i))) c.in_ok-meet.ensures c.loop-note.invariant
