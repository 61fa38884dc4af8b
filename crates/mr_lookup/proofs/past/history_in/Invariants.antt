use Rattle.std.proofs.Common.{◌≡◌, ◌≤◌, fold, take}
use Rattle.mr_lookup.proofs.Names.{IsHistory, issued_with}
use Rattle.mr_lookup.proofs.past.history_in.Given as goal

-- how many versions the events so far issued, and what they tell of the item
abbrev pub invariant-loop-event : goal.invariant-loop-event
invariant-loop-event l = record {
  few : l.issued ≤ l.event-index;
  issued : l.issued ≡ fold issued_with 0 (take l.event-index l.log);
  past : IsHistory l.id l.item (take l.event-index l.log) l.past.items;
}
