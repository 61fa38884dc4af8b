use Rattle.std.proofs.Common.{◌≡◌, take}
use Rattle.mr_kept.proofs.Names.{AreSpelled, batch_entries, contents, issued_after}
use Rattle.mr_kept.proofs.batch.batch_of.Given as goal

abbrev pub invariant-loop-note : goal.invariant-loop-note
invariant-loop-note l = record {
  spelled : AreSpelled (batch_entries l.issued l.events (take l.note-index l.notes)) (contents l.batch.entries.items);
  counted_is : l.batch.issued ≡ issued_after l.issued l.events;
}
