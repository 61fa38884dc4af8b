-- the events that entries tell
use Rattle.std.specs.Prelude.{List, [], ◌∷◌, replicate}
use Rattle.std.specs.List.{flat_map}
use Rattle.mr_replica.specs.declared.event.Event.{Event}
use Rattle.mr_replica.specs.declared.event.Event.TheVariants.{Next}
use Rattle.mr_entry.specs.declared.entry.Entry.{Entry}
use Rattle.mr_entry.specs.declared.entry.Entry.TheVariants as entry

-- the events that one entry tells: a run is so many Nexts, and a head and a note tell none
abbrev pub events_of_entry : Entry → List Event
events_of_entry (entry.Head h) = []
events_of_entry (entry.Event issued e) = e ∷ []
events_of_entry (entry.Nexts stream count) = replicate count (Next stream)
events_of_entry (entry.Note n) = []

-- the events that entries tell, in their order
abbrev pub events_of : List Entry → List Event
events_of entries = flat_map events_of_entry entries
