use Rattle.std.proofs.Common.{◌≡◌, ◌+◌, ◌≤◌, length}
use Rattle.mr_journal.specs.Format.{AreEntries, body, contents}
use Rattle.mr_journal.proofs.spell.body_size.Given as goal

abbrev pub invariant-loop-rest : goal.invariant-loop-rest
invariant-loop-rest l = record {
  size : l.size + length (body (contents l.rest)) ≡ length (body (contents l.entries));
  within : l.size ≤ l.room;
  all : AreEntries (contents l.rest) → AreEntries (contents l.entries);
  rest : AreEntries (contents l.entries) → AreEntries (contents l.rest);
}

abbrev pub decreases-loop-rest : goal.decreases-loop-rest
decreases-loop-rest l = length l.rest
