use Rattle.std.proofs.Common.{◌≡◌, string_bytes, ◌++◌, codes, take}
use Rattle.std.specs.List.{flat_map}
use Rattle.mr_live.specs.Telling.{held_text}
use Rattle.mr_live.proofs.telling.joined_text.Given as goal

abbrev pub invariant-loop-end : goal.invariant-loop-end
invariant-loop-end g l = string_bytes l.text ≡ codes "joined\n" ++ flat_map held_text (take l.end-index l.fn.ends)
