use Rattle.std.proofs.Common.{◌≡◌, ◌++◌, flat_map, string_bytes}
use Rattle.mr_draw.specs.Escape.{entity}
use Rattle.mr_draw.proofs.escape.push_escaped.Given as goal

abbrev pub invariant-loop-character : goal.invariant-loop-character
invariant-loop-character l = string_bytes l.svg ≡ string_bytes l.fn.svg ++ flat_map entity l.yielded
