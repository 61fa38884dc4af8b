use Rattle.std.proofs.Common.{◌≡◌, take}
use Rattle.mr_journal.specs.Format.{contents}
use Rattle.mr_kept.proofs.EntryLemmas.{GatheredSoFar}
use Rattle.mr_kept.proofs.gather.gather.Given as goal

abbrev pub invariant-loop-bytes : goal.invariant-loop-bytes
invariant-loop-bytes l = record {
  place_is : l.place ≡ l.bytes-index;
  told : GatheredSoFar (contents (take l.bytes-index l.entries)) l.gathered.events.items l.gathered.issued l.gathered.notes.items;
}
