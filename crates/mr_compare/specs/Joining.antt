-- the items of each mail, joined
use Rattle.std.specs.Prelude.{ℕ, Bool, List, [], ◌∷◌, map, Option, Some, None}
use Rattle.std.specs.Global.{Vec}
use Rattle.std.specs.List.{flat_map, list_any, reduce}
use Rattle.std.specs.Map.{lookup}
use Rattle.std.specs.Ordering.{ord_min}
use Rattle.mr_version.specs.Name.{Name, name_cmp, name_eq}
use Rattle.mr_maildir.specs.View.{ViewParts, nowhere}
use Rattle.mr_maildir.specs.Merging.{merged_view, over, differ}
use Rattle.mr_compare.specs.declared.held.Head.{Head}
use Rattle.mr_compare.specs.declared.joining.ItemHeads.{ItemHeads}
use Rattle.mr_compare.specs.declared.sides.HeldMail.{HeldMail}
use Rattle.mr_compare.specs.Held.{view_at}

-- what a table has of an item
abbrev pub at_item : {X : Type 0} → List (Name × X) → Name → Option X
at_item table item = lookup (λ own. name_eq item own) table

-- ---- items

-- an item as it is held, whatever room its list has
pub record ItemParts : Type 0 where
  pub item : Name
  pub versions : List Name
  pub view : ViewParts
  pub is_merge_due : Bool

abbrev pub item_parts : ItemHeads → ItemParts
item_parts heads = record { item = heads.item; versions = heads.versions.items; view = heads.view; is_merge_due = heads.is_merge_due }

abbrev pub standing_parts : List ℕ × ItemHeads → List ℕ × ItemParts
standing_parts p = (p.0, item_parts p.1)

-- how an item of a mail stands by its heads over the view of their ancestor, if it has heads
abbrev pub standing_of : List ℕ × Name → List Head → Option ViewParts → List (List ℕ × ItemParts)
standing_of key [] ancestor = []
standing_of key (head ∷ heads) ancestor = (
  key.0,
  record {
    item = key.1;
    versions = map (λ (h : Head). h.version) (head ∷ heads);
    view = merged_view (over ancestor) (map view_at (head ∷ heads));
    is_merge_due = differ (map view_at (head ∷ heads));
  },
) ∷ []

-- how the item of an entry stands, its ancestor being looked up
abbrev pub standings_at : List (Name × ViewParts) → (List ℕ × Name) × Vec Head → List (List ℕ × ItemParts)
standings_at ancestors e = standing_of e.0 e.1.items (at_item ancestors e.0.1)

-- ---- mails

-- views of one mail together, if there is one: over nothing that was before
abbrev pub together : List ViewParts → Option ViewParts
together [] = None
together (view ∷ views) = Some (merged_view nowhere (view ∷ views))

-- the lowest of some versions, if there is one
abbrev pub lowest : List Name → Option Name
lowest versions = reduce (ord_min name_cmp) versions

-- a mail of this lowest version and this view, if it has them
abbrev pub mail_of : List ℕ → Option Name → Option ViewParts → Bool → List HeldMail
mail_of digest None view is_due = []
mail_of digest (Some first) None is_due = []
mail_of digest (Some first) (Some view) is_due = record { digest = digest; first = first; view = view; is_merge_due = is_due } ∷ []

-- all versions of an item
abbrev pub versions_in : ItemHeads → List Name
versions_in heads = heads.versions.items

-- the mail of this digest that these items are
abbrev pub held_mail : List ℕ → List ItemHeads → List HeldMail
held_mail digest items =
    mail_of digest (lowest (flat_map versions_in items)) (together (map (λ (heads : ItemHeads). heads.view) items)) (list_any (λ (heads : ItemHeads). heads.is_merge_due) items)

abbrev pub held_entry : List ℕ × Vec ItemHeads → List HeldMail
held_entry e = held_mail e.0 e.1.items
