-- frames that are records
use Rattle.mr_wire.specs.declared.frame.Frame.{Frame}
use Rattle.mr_wire.specs.declared.frame.Frame.TheVariants as frame

-- the frame is a record
abbrev pub IsRecord : Frame → Type 0
IsRecord (frame.Record sent) = Unit {0}
IsRecord (frame.Ask question) = ⊥
IsRecord (frame.Receipt receipt) = ⊥
