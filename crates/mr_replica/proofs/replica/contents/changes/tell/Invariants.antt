use Rattle.std.proofs.Common.{◌≡◌, ◌≤◌, ◌++◌, length}
use Rattle.std.specs.Vec.Iter.{into_iter_items}
use Rattle.mr_replica.proofs.replica.contents.changes.tell.Given as goal

-- the entries so far are told, and there is room for those that are left
abbrev pub invariant-loop-entry : goal.invariant-loop-entry
invariant-loop-entry l = record {
  entries : l.feed.entries ++ into_iter_items l.entry-iterator ≡ l.initial.feed.entries ++ l.fn.entries.items;
  room : length (into_iter_items l.entry-iterator) ≤ l.feed.room;
}
