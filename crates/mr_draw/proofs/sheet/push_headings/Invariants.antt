use Rattle.std.proofs.Common.{◌≡◌, ◌++◌, flat_map, string_bytes, take}
use Rattle.mr_draw.specs.Sheet.{heading_text}
use Rattle.mr_draw.proofs.sheet.push_headings.Given as goal

abbrev pub invariant-loop-heading : goal.invariant-loop-heading
invariant-loop-heading l = string_bytes l.svg ≡ string_bytes l.fn.svg ++ flat_map (heading_text l.lanes) (take l.heading-index l.headings)
