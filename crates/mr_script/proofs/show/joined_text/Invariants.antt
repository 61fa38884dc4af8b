use Rattle.std.proofs.Common.{◌≡◌, string_bytes, ◌++◌, take, map}
use Rattle.std.specs.List.{flat_map}
use Rattle.mr_script.proofs.show.joined_text.Given as goal

abbrev pub invariant-loop-text : goal.invariant-loop-text
invariant-loop-text l =
    string_bytes l.joined ≡ string_bytes l.initial.joined ++ flat_map (λ t. l.separator ++ t) (map (λ t. t.now) (take l.text-index l.others))
