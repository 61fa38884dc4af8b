-- what was left of each mail, some item of which changed since
use Rattle.std.specs.Prelude.{ℕ, Bool, not, ◌&&◌, is_some, List, [], ◌∷◌, ◌++◌, map, filter, Option, Some, None}
use Rattle.std.specs.BTreeMap.{keys}
use Rattle.std.specs.Global.{Vec}
use Rattle.std.specs.List.{flat_map, list_any}
use Rattle.mr_version.specs.Name.{Name}
use Rattle.mr_mail.specs.Label.{text_cmp}
use Rattle.mr_mail.specs.Mail.{MailCard}
use Rattle.mr_maildir.specs.View.{ViewParts}
use Rattle.mr_compare.specs.declared.joining.ItemHeads.{ItemHeads}
use Rattle.mr_compare.specs.declared.left.Left.{Left}
use Rattle.mr_compare.specs.declared.sides.LeftMail.{LeftMail}
use Rattle.mr_compare.specs.declared.sides.Sides.{Sides}
use Rattle.mr_compare.specs.Gather.{values_at, values_of}
use Rattle.mr_compare.specs.Joining.{at_item, together}
use Rattle.mr_compare.specs.Sides.{at_digest}

-- a value with the digest of its mail, if that is told
abbrev pub with_digest : {X : Type 0} → Option (List ℕ) → X → List (List ℕ × X)
with_digest None value = []
with_digest (Some digest) value = (digest, value) ∷ []

-- how a card has its mail stand
abbrev pub card_view : MailCard → ViewParts
card_view card = record { labels = card.labels; flags = card.flags }

-- of each item that changed the digest, and whether it came: whether the last that is told of it added a card
abbrev pub news_told : List (Name × Option MailCard) → List (Name × List ℕ) → List (List ℕ × Bool)
news_told changed digests = flat_map (λ (e : Name × Option MailCard). with_digest (at_item digests e.0) (is_some e.1)) changed

-- of each card that is left the digest, and how it has the mail stand
abbrev pub cards_told : List ((Name × Name) × MailCard) → List (Name × List ℕ) → List (List ℕ × ViewParts)
cards_told cards digests = flat_map (λ (e : (Name × Name) × MailCard). with_digest (at_item digests e.0.0) (card_view e.1)) cards

-- how those of the items have the mail stand that didn't change
abbrev pub stayed_views : List (Name × Option MailCard) → List ItemHeads → List ViewParts
stayed_views changed items = map (λ (heads : ItemHeads). heads.view) (filter (λ (heads : ItemHeads). not (is_some (at_item changed heads.item))) items)

-- how all say that a mail was left: the cards that are left of its items, and those of its items that are held and didn't change
abbrev pub views_left : Left → List (Name × List ℕ) → List (List ℕ × Vec ItemHeads) → List ℕ → List ViewParts
views_left left digests items digest = values_of text_cmp digest (cards_told left.cards.entries digests) ++ stayed_views left.changed.entries (values_at text_cmp items digest)

-- what was left of a mail by these views, if one of its items changed: whether each came
abbrev pub left_mail : List ViewParts → List Bool → Option LeftMail
left_mail views [] = None
left_mail views (came ∷ more) = Some (record { view = together views; came = list_any (λ b. b) (came ∷ more) })

-- ---- mails that aren't held

-- whether a table has nothing of a digest
abbrev pub is_absent : {X : Type 0} → List (List ℕ × X) → List ℕ → Bool
is_absent table digest = not (is_some (at_digest table digest))

-- the mails that are seen and not held, and those that were left and are neither
abbrev pub unheld : List (List ℕ × Vec ItemHeads) → Sides → List (List ℕ)
unheld items sides = filter (is_absent items) (keys sides.seen) ++ filter (λ (digest : List ℕ). is_absent items digest && is_absent sides.seen.entries digest) (keys sides.left)
