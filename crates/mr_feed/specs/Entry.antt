-- entries of a feed, and what they are in the model of histories
use Rattle.std.specs.Prelude.{List, map}
use Rattle.mr_version.specs.Name.{Name}
use Rattle.mr_mail.specs.Mail.{MailCard}
use Rattle.mr_model.specs.History as model
use Rattle.mr_feed.specs.declared.entry.Entry.{Entry}
use Rattle.mr_feed.specs.declared.entry.Entry.TheVariants.{Added, Dropped}

abbrev pub entry_item : Entry → Name
entry_item (Added item version card) = item
entry_item (Dropped item version) = item

abbrev pub entry_version : Entry → Name
entry_version (Added item version card) = version
entry_version (Dropped item version) = version

-- the entry as a history has it
abbrev pub told_entry : Entry → model.Entry MailCard
told_entry (Added item version card) = model.Added item version card
told_entry (Dropped item version) = model.Dropped item version

abbrev pub told : List Entry → List (model.Entry MailCard)
told entries = map told_entry entries
