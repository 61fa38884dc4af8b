use Rattle.std.proofs.Common.{◌≡◌, string_bytes, ◌++◌, take}
use Rattle.mr_script.specs.Holding.{spaced_versions}
use Rattle.mr_script.proofs.holding.with_versions.Given as goal

abbrev pub invariant-loop-revision : goal.invariant-loop-revision
invariant-loop-revision l = string_bytes l.line ≡ string_bytes l.fn.line ++ spaced_versions (take l.revision-index l.revisions)
