use Rattle.std.proofs.Common.{◌≡◌, rules, subst}
use Rattle.mr_entry.specs.Note.{NoteParts}
use Rattle.mr_desk.proofs.Names.{IsUnnoted, journal_of, journaled_of, note_of}
use Rattle.mr_desk.proofs.KeptLemmas.{unnoted}
use Rattle.mr_desk.proofs.notes.take_note.Goals as goal

-- What was copied is what was lent.
pub returns-in-Err : goal.returns-in-Err
returns-in-Err c =
    let note : c.new-note.result ≡ note_of c.args.bytes.now = search rules in
    let why = subst (λ (n : NoteParts). IsUnnoted (journal_of (journaled_of c.args.kept.now)) n c.in-Err.fault) note c.in-Err.ensures.fault in
    rw c.from.ensures (unnoted c.args.bytes.now c.args.kept.now c.note.new.self c.in-Err.fault why c.in-Err.ensures.unchanged c.in-Err.ensures.host)
