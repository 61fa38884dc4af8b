use Rattle.std.proofs.Common.{◌≡◌, take}
use Rattle.std.specs.List.{filter_map}
use Rattle.mr_fold.specs.inner.Straying.{place_of}
use Rattle.mr_fold.proofs.straying.places_of.Given as goal

-- the places of the acts so far
abbrev pub invariant-loop-mail : goal.invariant-loop-mail
invariant-loop-mail l = l.places.items ≡ filter_map (place_of l.table.entries) (take l.mail-index l.acts)
