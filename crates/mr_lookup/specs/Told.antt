-- what a log tells first of items
use Rattle.std.specs.Prelude.{◌≡◌, ℕ, ◌+◌, Bool, if◌then◌else◌, List, [], ◌∷◌, ◌++◌, Option, None}
use Rattle.std.specs.List.{list_any}
use Rattle.std.specs.Map.{lookup}
use Rattle.mr_version.specs.Name.{IsVersion, Name, name_eq}
use Rattle.mr_mail.specs.Mail.{Mail}
use Rattle.mr_wire.specs.declared.frame.Body.{Body}
use Rattle.mr_wire.specs.declared.frame.Body.TheVariants.{Item}
use Rattle.mr_wire.specs.declared.frame.Frame.{Frame}
use Rattle.mr_wire.specs.declared.frame.Frame.TheVariants.{Record}
use Rattle.mr_replica.specs.declared.event.Event.{Event}
use Rattle.mr_replica.specs.declared.event.Event.TheVariants.{Create, Edit, Receive}

-- a replica's own version of this counter
abbrev pub own_name : (id counter : ℕ) → Name
own_name id counter = record { author = id; counter = counter }

-- how many versions were issued after an event, where so many were before
abbrev pub issued_with : ℕ → Event → ℕ
issued_with issued (Create message) = issued + 1
issued_with issued (Edit bases message) = issued + 1
issued_with issued _ = issued

-- the message that a record tells of an item
abbrev pub told_in : Body → List (Name × Mail)
told_in (Item r) = (r.item, r.message) ∷ []
told_in _ = []

abbrev pub told_in_frame : Frame → List (Name × Mail)
told_in_frame (Record sent) = told_in sent.body
told_in_frame _ = []

-- the messages that an event tells of items: a Create tells one of the item that it makes, which is named for the next version
abbrev pub told_by : (id issued : ℕ) → Event → List (Name × Mail)
told_by id issued (Create message) = (own_name id (issued + 1), message) ∷ []
told_by id issued (Receive frame) = told_in_frame frame
told_by id issued _ = []

-- the messages that events tell of items, in their order, where so many versions were issued before
abbrev pub told_after : (id issued : ℕ) → List Event → List (Name × Mail)
told_after id issued [] = []
told_after id issued (e ∷ es) = told_by id issued e ++ told_after id (issued_with issued e) es

-- the first message with an item
abbrev pub message_at : List (Name × Mail) → Name → Option Mail
message_at table item = lookup (λ own. name_eq item own) table

-- the first message that a log tells of an item
abbrev pub first_told : (id : ℕ) → List Event → Name → Option Mail
first_told id log item = message_at (told_after id 0 log) item

-- whether a list has an item
abbrev pub is_among : List Name → Name → Bool
is_among items item = list_any (λ own. name_eq item own) items

-- of each name that an item can have, the table has the first message that a log tells of it, if it is wanted, and else none
abbrev pub HasFirstTold : (id : ℕ) → List Event → (wanted : Name → Bool) → (table : List (Name × Mail)) → Type 0
HasFirstTold id log wanted table = (item : Name) → IsVersion item.author item.counter → message_at table item ≡ (if wanted item then first_told id log item else None)
