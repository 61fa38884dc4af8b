-- what one entry tells
use Rattle.std.specs.Prelude.{Option, Some, None}
use Rattle.mr_mail.specs.Mail.{MailCard}
use Rattle.mr_feed.specs.declared.entry.Entry.{Entry}
use Rattle.mr_feed.specs.declared.entry.Entry.TheVariants.{Added, Dropped}

-- the card that an entry gives its version
abbrev pub card_added : Entry → Option MailCard
card_added (Added item version card) = Some card
card_added (Dropped item version) = None
