use Rattle.std.proofs.Common.{◌≡◌, ◌≤◌, drop, None}
use Rattle.mr_lookup.specs.Versions.{versions_after, versions_told}
use Rattle.mr_lookup.proofs.VersionLemmas.{newest_of}
use Rattle.mr_lookup.proofs.versions.newest_in.Given as goal

-- with what is left, the newest so far gives the newest of the whole log
abbrev pub invariant-loop-event : goal.invariant-loop-event
invariant-loop-event l = record {
  few : l.issued ≤ l.event-index;
  left : newest_of l.author l.newest (versions_after l.id l.issued (drop l.event-index l.log)) ≡ newest_of l.author None (versions_told l.id l.log);
}
