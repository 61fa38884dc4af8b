use Rattle.std.proofs.Common.{◌≡◌, ◌++◌, ◌∷◌, ℕ, List, take, string_bytes}
use Rattle.std.specs.List.{flat_map}
use Rattle.mr_maildir.proofs.listing.push_others.Given as goal

abbrev pub invariant-loop-label : goal.invariant-loop-label
invariant-loop-label l = string_bytes l.text ≡ string_bytes l.fn.text ++ flat_map (λ (label : List ℕ). 44 ∷ label) (take l.label-index l.labels)
