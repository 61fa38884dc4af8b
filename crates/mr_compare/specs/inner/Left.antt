-- what a feed's beginning tells, entry by entry
use Rattle.std.specs.Prelude.{◌&&◌, if◌then◌else◌, Option, Some, None}
use Rattle.mr_version.specs.Name.{Name, name_eq}
use Rattle.mr_mail.specs.Mail.{MailCard}
use Rattle.mr_feed.specs.declared.entry.Entry.{Entry}
use Rattle.mr_feed.specs.Entry.{entry_item, entry_version}
use Rattle.mr_compare.specs.Left.{newer}
use Rattle.mr_feed.specs.inner.Entry.{card_added}

-- ---- one entry more

-- what is told of an item, with one entry more of it
abbrev pub newest_of : Option (Option MailCard) → Entry → Option MailCard
newest_of None e = newer None e
newest_of (Some last) e = newer last e

-- the card of an item's version, with one entry more
abbrev pub with_entry : Entry → Option MailCard → Name → Name → Option MailCard
with_entry e before item version = if name_eq (entry_item e) item && name_eq (entry_version e) version then card_added e else before
