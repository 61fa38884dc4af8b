-- what a replica holds of mails
use Rattle.std.specs.Prelude.{◌≡◌, ℕ, List, map}
use Rattle.std.specs.Global.{Vec}
use Rattle.std.specs.List.{flat_map}
use Rattle.std.specs.Ordering.{ordering_then}
use Rattle.std.specs.declared.cmp.Ordering.{Ordering}
use Rattle.mr_version.specs.Name.{Name, name_cmp}
use Rattle.mr_madewith.specs.Revision.{Rev}
use Rattle.mr_mail.specs.Label.{text_cmp}
use Rattle.mr_maildir.specs.View.{ViewParts}
use Rattle.mr_compare.specs.Gather.{values_at, values_of}
use Rattle.mr_compare.specs.Held.{AreRead}
use Rattle.mr_compare.specs.Joining.{standing_parts, standings_at}
use Rattle.mr_compare.specs.declared.held.Head.{Head}
use Rattle.mr_compare.specs.declared.joining.ItemHeads.{ItemHeads}

-- a mail and an item that it is, in order
abbrev pub mail_item_cmp : (List ℕ × Name) → (List ℕ × Name) → Ordering
mail_item_cmp a b = ordering_then (text_cmp a.0 b.0) (name_cmp a.1 b.1)

-- a table has the items of each mail that these revisions are of: their heads come together that are of one mail and one item, each item
-- stands by its heads over some ancestor, and the items come together that are of one mail
pub record AreHeld (revisions : List Rev) (items : List (List ℕ × Vec ItemHeads)) : Type 0 where
  pub read : List ((List ℕ × Name) × Head)
  pub are_read : AreRead revisions read
  pub by_item : List ((List ℕ × Name) × Vec Head)
  pub are_gathered : (key : List ℕ × Name) → values_at mail_item_cmp by_item key ≡ values_of mail_item_cmp key read
  pub ancestors : List (Name × ViewParts)
  pub standings : List (List ℕ × ItemHeads)
  pub stand : map standing_parts standings ≡ flat_map (standings_at ancestors) by_item
  pub are_joined : (digest : List ℕ) → values_at text_cmp items digest ≡ values_of text_cmp digest standings
