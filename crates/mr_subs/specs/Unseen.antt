-- how many versions are unseen
use Rattle.std.specs.Prelude.{◌≡◌, ℕ, Bool, false, not, List, length, Option, Some, None}
use Rattle.std.specs.List.Sorted.{IsStrictlySortedBy}
use Rattle.mr_version.specs.Name.{Name, name_cmp}
use Rattle.mr_mail.specs.declared.flags.Flag.TheVariants.{Seen}
use Rattle.mr_mail.specs.Flag.{has_flag}
use Rattle.mr_mail.specs.Mail.{MailCard}
use Rattle.mr_model.specs.Versions.{Versions}
use Rattle.mr_model.specs.Headline.{Cards}
use Rattle.mr_feed.specs.Fold.{is_listed}

-- there is a card, and it lacks the flag seen
abbrev pub lacks_seen : Option MailCard → Bool
lacks_seen None = false
lacks_seen (Some card) = not (has_flag card.flags Seen)

-- the versions whose card lacks the flag seen
abbrev pub unseen_in : Cards MailCard → Versions
unseen_in cards v = lacks_seen (cards v)

-- these are the unseen versions
abbrev pub ListsUnseen : List Name → Cards MailCard → Type 0
ListsUnseen versions cards = (v : Name) → is_listed versions v ≡ unseen_in cards v

-- the set has this many versions
pub record HasCount (set : Versions) (count : ℕ) : Type 0 where
  pub versions : List Name
  pub rising : IsStrictlySortedBy name_cmp versions
  pub exact : (v : Name) → is_listed versions v ≡ set v
  pub length_is : length versions ≡ count
