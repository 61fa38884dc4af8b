-- what a feed's beginning has of the items that its rest tells of
use Rattle.std.specs.Prelude.{Bool, List, [], ◌∷◌, filter, fold, Option, Some, None}
use Rattle.std.specs.Option.{is_some}
use Rattle.std.specs.Map.{lookup}
use Rattle.std.specs.Ordering.{ordering_then, eq_by_cmp}
use Rattle.std.specs.declared.cmp.Ordering.{Ordering}
use Rattle.mr_version.specs.Name.{Name, name_cmp, name_eq}
use Rattle.mr_mail.specs.Mail.{MailCard}
use Rattle.mr_model.specs.Headline as model
use Rattle.mr_feed.specs.declared.entry.Entry.{Entry}
use Rattle.mr_feed.specs.declared.entry.Entry.TheVariants.{Added, Dropped}
use Rattle.mr_feed.specs.Entry.{told, entry_item}

-- an item's entries
abbrev pub of_item : Name → List Entry → List Entry
of_item item entries = filter (λ e. name_eq (entry_item e) item) entries

-- the cards that who follows the item has, once these entries were gone through
abbrev pub item_cards : List Entry → Name → model.Cards MailCard
item_cards entries item = model.fold (told (of_item item entries))

-- the card that was added last, with one entry more
abbrev pub newer : Option MailCard → Entry → Option MailCard
newer last (Added item version card) = Some card
newer last (Dropped item version) = last

-- the card that some entries added last; there may be no entry, and they may only have dropped versions
abbrev pub last_added : List Entry → Option (Option MailCard)
last_added [] = None
last_added (e ∷ entries) = Some (fold newer None (e ∷ entries))

-- what the entries tell of an item, if they tell of it: the card that they added last
abbrev pub last_told : List Entry → Name → Option (Option MailCard)
last_told entries item = last_added (of_item item entries)

-- whether one of the entries is of the item
abbrev pub is_told : List Entry → Name → Bool
is_told entries item = is_some (last_told entries item)

-- ---- tables

-- what a table of items tells of one
abbrev pub told_last : List (Name × Option MailCard) → Name → Option (Option MailCard)
told_last table item = lookup (λ own. name_eq item own) table

-- pairs of an item and a version in order
abbrev pub pair_cmp : (Name × Name) → (Name × Name) → Ordering
pair_cmp a b = ordering_then (name_cmp a.0 b.0) (name_cmp a.1 b.1)

-- the card of an item's version in a table
abbrev pub card_left : List ((Name × Name) × MailCard) → Name → Name → Option MailCard
card_left table item version = lookup (λ own. eq_by_cmp pair_cmp (item, version) own) table
