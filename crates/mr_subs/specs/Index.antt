-- which versions have a label
use Rattle.std.specs.Prelude.{◌≡◌, ℕ, Bool, false, IsTrue, List, Option, Some, None}
use Rattle.std.specs.Ordering.{is_eq}
use Rattle.std.specs.Map.{lookup}
use Rattle.std.specs.BTreeSet.{BTreeSet}
use Rattle.mr_version.specs.Name.{Name, name_eq}
use Rattle.mr_mail.specs.Label.{text_cmp, has_label}
use Rattle.mr_mail.specs.Mail.{MailCard}
use Rattle.mr_model.specs.Versions.{Versions}
use Rattle.mr_model.specs.Headline.{Cards}
use Rattle.mr_feed.specs.Fold.{is_listed}

-- there is a card, and it has the label
abbrev pub card_has_label : Option MailCard → List ℕ → Bool
card_has_label None label = false
card_has_label (Some card) label = has_label card.labels label

-- the versions whose card has the label
abbrev pub labelled : Cards MailCard → List ℕ → Versions
labelled cards label v = card_has_label (cards v) label

-- the card of a version in a table
abbrev pub card_at : List (Name × MailCard) → Cards MailCard
card_at table v = lookup (λ u. name_eq v u) table

-- the table has these cards and no other
abbrev pub HasCards : List (Name × MailCard) → Cards MailCard → Type 0
HasCards table cards = (v : Name) → card_at table v ≡ cards v

-- ---- shelves: a set of versions for each label

abbrev pub set_has : Option (BTreeSet Name) → Versions
set_has None v = false
set_has (Some set) v = is_listed set.keys v

-- the label's set
abbrev pub shelf : List (List ℕ × BTreeSet Name) → List ℕ → Option (BTreeSet Name)
shelf shelves label = lookup (λ own. is_eq (text_cmp label own)) shelves

-- the version stands under the label
abbrev pub on_shelf : List (List ℕ × BTreeSet Name) → List ℕ → Versions
on_shelf shelves label v = set_has (shelf shelves label) v

-- each version stands on the shelf of each of its card's labels
abbrev pub AreShelved : List (Name × MailCard) → List (List ℕ × BTreeSet Name) → Type 0
AreShelved table shelves = (label : List ℕ) (v : Name) → IsTrue (labelled (card_at table) label v) → IsTrue (on_shelf shelves label v)
