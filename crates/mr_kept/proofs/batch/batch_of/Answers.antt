use Rattle.std.proofs.Common.{◌∷◌, ◌∙◌, [], ap}
use Rattle.mr_kept.proofs.Names.{IsOfEntries, batch_entries, contents, entries_of}
use Rattle.mr_kept.proofs.EntryLemmas.{contents_append, note_more}
use Rattle.mr_kept.proofs.RoomLemmas.{err_by, events_fault, note_fault}
use Rattle.mr_kept.proofs.batch.batch_of.Goals as goal

pub loop-note-preserved : goal.loop-note-preserved
loop-note-preserved c =
    let entries = c.loop-note.batch.entries.items in
    let bytes = c.in_ok-encode_note.field-0 in
    let texts = ap contents c.in_ok-push.ensures.items ∙ contents_append entries (bytes ∷ []) in
    record {
      spelled = note_more (entries_of c.args.issued c.args.events.now) c.args.notes.now c.loop-note.note-index c.note-item.result (contents entries) (contents c.push.new.self.items) bytes.items c.loop-note.invariant.spelled
          c.loop-note-test.true c.note-item.is c.in_ok-encode_note.ensures texts;
      counted_is = c.loop-note.invariant.counted_is;
    }

pub returns-in_err-batch-clause-fault : goal.returns-in_err-batch-clause-fault
returns-in_err-batch-clause-fault c =
    err_by (IsOfEntries (batch_entries c.args.issued c.args.events.now c.args.notes.now)) c.from_residual.result c.in_err-batch.field-0.0 c.from_residual.ensures.1
    (events_fault c.args.issued c.args.events.now c.args.notes.now c.in_err-batch.field-0.0 c.in_err-batch.ensures.fault)

pub returns-in_err-encode_note-clause-fault : goal.returns-in_err-encode_note-clause-fault
returns-in_err-encode_note-clause-fault c =
    err_by (IsOfEntries (batch_entries c.args.issued c.args.events.now c.args.notes.now)) c.from_residual-in_err-encode_note.result _ c.from_residual-in_err-encode_note.ensures.1
    (note_fault c.args.issued c.args.events.now c.args.notes.now c.loop-note.note-index c.note-item.result c.in_err-encode_note.field-0.0 c.loop-note-test.true c.note-item.is c.in_err-encode_note.ensures)
