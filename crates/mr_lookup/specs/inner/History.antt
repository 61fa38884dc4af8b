-- the versions that are told of an item, event by event
use Rattle.std.specs.Prelude.{Bool, false, not, ◌&&◌, if◌then◌else◌, List, [], ◌∷◌, ◌++◌, Option, Some, None}
use Rattle.mr_version.specs.Name.{Name, name_eq}
use Rattle.mr_mail.specs.Mail.{Mail}
use Rattle.mr_wire.specs.declared.frame.Body.{Body}
use Rattle.mr_wire.specs.declared.frame.Body.TheVariants.{Item}
use Rattle.mr_wire.specs.declared.frame.Frame.{Frame}
use Rattle.mr_wire.specs.declared.frame.Frame.TheVariants.{Record}
use Rattle.mr_replica.specs.declared.event.Event.{Event}
use Rattle.mr_replica.specs.declared.event.Event.TheVariants.{Create, Edit, Receive}
use Rattle.mr_lookup.specs.History.{is_told}

-- whether an edit with these bases is of the item that these are versions of: its first base is one of them
abbrev pub is_edit_of : (past : List (Name × Mail)) → (bases : List Name) → Bool
is_edit_of past [] = false
is_edit_of past (base ∷ bases) = is_told past base

-- whether a record tells of the item
abbrev pub is_in : Name → Body → Bool
is_in item (Item r) = name_eq r.item item
is_in item _ = false

abbrev pub is_in_frame : Name → Frame → Bool
is_in_frame item (Record sent) = is_in item sent.body
is_in_frame item _ = false

-- whether the version that an event tells is one of the item, of which these are told before
abbrev pub is_of_item : (item : Name) → (past : List (Name × Mail)) → (version : Name) → Event → Bool
is_of_item item past version (Create message) = name_eq version item
is_of_item item past version (Edit bases message) = is_edit_of past bases
is_of_item item past version (Receive frame) = is_in_frame item frame
is_of_item item past version _ = false

-- the versions of the item that are told, with the one that an event tells, if it is of the item and is not among them
abbrev pub told_more : (item : Name) → (past : List (Name × Mail)) → Event → Option (Name × Mail) → List (Name × Mail)
told_more item past e None = past
told_more item past e (Some told) = if is_of_item item past told.0 e && not (is_told past told.0) then past ++ told ∷ [] else past
