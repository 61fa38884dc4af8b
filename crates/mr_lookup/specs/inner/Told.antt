-- what is told first of items, message by message
use Rattle.std.specs.Prelude.{◌≡◌, Bool, if◌then◌else◌, List, Option, Some, None}
use Rattle.mr_version.specs.Name.{IsVersion, Name}
use Rattle.mr_mail.specs.Mail.{Mail}
use Rattle.mr_lookup.specs.Told.{message_at}

-- what is known of an item that is told first, with one message more of it, if it is wanted
abbrev pub told_with : (more known : Option Mail) → (wanted : Bool) → Option Mail
told_with None known wanted = known
told_with (Some message) None wanted = if wanted then Some message else None
told_with (Some message) (Some first) wanted = Some first

-- of each name, the new table has what was known, or the first of these messages, if it is wanted and nothing was
abbrev pub Notes : (more : List (Name × Mail)) → (wanted : Name → Bool) → (old new : List (Name × Mail)) → Type 0
Notes more wanted old new = (item : Name) → message_at new item ≡ told_with (message_at more item) (message_at old item) (wanted item)

-- of each name that an item can have, the new table has what was known, or the first of these messages, if it is wanted and nothing was
abbrev pub NotesOfItems : (more : List (Name × Mail)) → (wanted : Name → Bool) → (old new : List (Name × Mail)) → Type 0
NotesOfItems more wanted old new = (item : Name) → IsVersion item.author item.counter → message_at new item ≡ told_with (message_at more item) (message_at old item) (wanted item)
