use Rattle.std.proofs.Common.{◌≡◌, string_bytes, ◌++◌, take}
use Rattle.mr_script.specs.Holding.{spaced_names}
use Rattle.mr_script.proofs.taken.with_names.Given as goal

abbrev pub invariant-loop-version : goal.invariant-loop-version
invariant-loop-version l = string_bytes l.line ≡ string_bytes l.fn.line ++ spaced_names (take l.version-index l.versions)
