use Rattle.std.proofs.Common.{◌≡◌, ◌≤◌, take}
use Rattle.mr_lookup.proofs.Names.{HasFirstTold, fold, is_among, issued_with}
use Rattle.mr_lookup.proofs.told.told_in_log.Given as goal

-- what the events so far tell, and how many versions they issued
abbrev pub invariant-loop-event : goal.invariant-loop-event
invariant-loop-event l = record {
  few : l.issued ≤ l.event-index;
  issued : l.issued ≡ fold issued_with 0 (take l.event-index l.log);
  told : HasFirstTold l.id (take l.event-index l.log) (is_among l.items.keys) l.told.entries;
}
