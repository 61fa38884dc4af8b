use Rattle.std.proofs.Common.{◌≡◌, ◌≤◌, drop}
use Rattle.mr_lookup.proofs.Names.{message_at, versions_after, versions_told}
use Rattle.mr_lookup.proofs.versions.first_message.Given as goal

-- what is left tells the version as the whole log does
abbrev pub invariant-loop-event : goal.invariant-loop-event
invariant-loop-event l = record {
  few : l.issued ≤ l.event-index;
  left : message_at (versions_after l.id l.issued (drop l.event-index l.log)) l.version ≡ message_at (versions_told l.id l.log) l.version;
}
