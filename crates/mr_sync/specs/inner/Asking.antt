-- the request among the replies of a replica
use Rattle.std.specs.Prelude.{◌-◌, List, length, slice_get, Option, Some, None, option_and_then}
use Rattle.mr_replica.specs.declared.event.Reply.{Reply}
use Rattle.mr_replica.specs.declared.event.Reply.TheVariants.{Asked}
use Rattle.mr_wire.specs.Frames.{Question}

-- the request that a reply is
abbrev pub asked : Reply → Option Question
asked (Asked question) = Some question
asked reply = None

-- the request that the last of these replies is
abbrev pub last_asked : List Reply → Option Question
last_asked replies = option_and_then asked (slice_get replies (length replies - 1))
