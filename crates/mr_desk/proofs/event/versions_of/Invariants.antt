use Rattle.std.proofs.Common.{◌≡◌, map, take, None}
use Rattle.mr_desk.specs.Version.{first_unnamed, named_by}
use Rattle.mr_desk.proofs.event.versions_of.Given as goal

-- the numbers so far are those of versions
abbrev pub invariant-loop-named : goal.invariant-loop-named
invariant-loop-named l = record {
  named : first_unnamed (take l.named-index l.numbers) ≡ None;
  versions : l.versions.items ≡ map named_by (take l.named-index l.numbers);
}
