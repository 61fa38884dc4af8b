use Rattle.std.proofs.Common.{◌≡◌, ◌++◌, length}
use Rattle.mr_journal.specs.Format.{AreEntries, body, contents}
use Rattle.mr_journal.proofs.spell.put_body.Given as goal

abbrev pub invariant-loop-rest : goal.invariant-loop-rest
invariant-loop-rest l = record {
  so_far : l.out.items ++ body (contents l.rest) ≡ l.fn.out.items ++ body (contents l.entries);
  fit : AreEntries (contents l.rest);
}

abbrev pub decreases-loop-rest : goal.decreases-loop-rest
decreases-loop-rest l = length l.rest
