use Rattle.std.proofs.Common.{◌≡◌, All, length, map, take}
use Rattle.mr_draw.specs.Picture.{HasFilter, IsWritten, named_by, named_from}
use Rattle.mr_draw.proofs.picture.headings.Given as goal

-- the lanes so far have what stands above them
abbrev pub invariant-loop-column : goal.invariant-loop-column
invariant-loop-column g l =
    (map named_by l.headings.items ≡ named_from (map (λ name. name.now) l.names) 0 (take l.column l.lanes))
    × All (HasFilter l.scene.world.now) l.headings.items
    × All (IsWritten (length l.lanes)) l.headings.items
