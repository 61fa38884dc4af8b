use Rattle.std.proofs.Common.{◌≡◌, ◌++◌, string_bytes, take}
use Rattle.mr_draw.specs.Words.{spaced}
use Rattle.mr_draw.proofs.title.push_spaced.Given as goal

-- the versions so far
abbrev pub invariant-loop-version : goal.invariant-loop-version
invariant-loop-version l = string_bytes l.text ≡ string_bytes l.fn.text ++ spaced (take l.version-index l.versions)
