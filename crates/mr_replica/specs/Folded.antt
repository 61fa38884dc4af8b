-- what a subscriber has that went through a whole feed of a replica, that of its heads or that of its push-outs
use Rattle.std.specs.Prelude.{◌≡◌, Some, None, List, [], ◌∷◌, map, ⊤}
use Rattle.std.specs.Option.{option_map}
use Rattle.mr_version.specs.Name.{Name}
use Rattle.mr_mail.specs.Mail.{card_of}
use Rattle.mr_model.specs.History as model
use Rattle.mr_model.specs.Headline.{Cards, fold, fold_from, no_cards}
use Rattle.mr_feed.specs.declared.entry.Entry.{Entry}
use Rattle.mr_feed.specs.declared.entry.Entry.TheVariants.{Added, Dropped}
use Rattle.mr_feed.specs.Entry.{told}
use Rattle.mr_madewith.specs.Revision.{Rev}
use Rattle.mr_store.specs.Revisions.{revision_of}
use Rattle.mr_replica.specs.State.{State}

-- the entry as a history has it, with its item in place of a card
abbrev pub told_item : Entry → model.Entry Name
told_item (Added item version card) = model.Added item version item
told_item (Dropped item version) = model.Dropped item version

-- what is added is not there yet, and what is dropped is there, of the item that the entry names
abbrev pub IsNews : (items : Cards Name) → Entry → Type 0
IsNews items (Added item version card) = items version ≡ None
IsNews items (Dropped item version) = items version ≡ Some item

-- each of the entries is news, by what those before it make of the items
abbrev pub AreNews : (items : Cards Name) → List Entry → Type 0
AreNews items [] = ⊤
AreNews items (entry ∷ entries) = IsNews items entry × AreNews (fold_from items (told_item entry ∷ [])) entries

-- Once the whole feed was gone through, the version of each of these revisions has its card and its item, and no other version has any.
-- On the way no version is added that is there, and none is dropped that is not there or is of another item.
pub record FoldsTo (feed : List Entry) (held : List Rev) : Type 0 where
  pub cards : (v : Name) → fold (told feed) v ≡ option_map (λ r. card_of r.message) (revision_of held v)
  pub items : (v : Name) → fold (map told_item feed) v ≡ option_map (λ r. r.item) (revision_of held v)
  pub news : AreNews no_cards feed

module _ {K : Type 0} where
  -- the fold of the replica's feed is its store
  abbrev pub FoldsToStore : State K → Type 0
  FoldsToStore s = FoldsTo s.feed s.heads

  -- the fold of its push-out feed is its push-outs
  abbrev pub FoldsToPushOuts : State K → Type 0
  FoldsToPushOuts s = FoldsTo s.push_out_feed s.push_outs
