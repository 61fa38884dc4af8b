-- the newest version that is told, message by message
use Rattle.std.specs.Prelude.{ℕ, ◌==◌, Bool, false, ◌&&◌, nat_lt, if◌then◌else◌, Option, Some, None}
use Rattle.mr_version.specs.Name.{Name, name_eq}
use Rattle.mr_mail.specs.Mail.{Mail}

-- the message, if it is told of this version
abbrev pub message_if : Name → Option (Name × Mail) → Option Mail
message_if version None = None
message_if version (Some told) = if name_eq version told.0 then Some told.1 else None

-- whether a version is the author's, with a higher counter than the newest one so far
abbrev pub is_above : (author : ℕ) → (newest : Option (Name × Mail)) → Name → Bool
is_above author None version = version.author == author
is_above author (Some before) version = (version.author == author) && nat_lt before.0.counter version.counter

-- whether one more is told, which is that
abbrev pub is_newer : (author : ℕ) → (newest more : Option (Name × Mail)) → Bool
is_newer author newest None = false
is_newer author newest (Some told) = is_above author newest told.0

-- the newest one so far, after one more may be told
abbrev pub newer_of : (author : ℕ) → (newest more : Option (Name × Mail)) → Option (Name × Mail)
newer_of author newest more = if is_newer author newest more then more else newest
