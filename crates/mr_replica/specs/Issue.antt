-- What an event asks a replica to issue, and the change that an issue makes.
use Rattle.std.specs.Prelude.{◌≡◌, ◌+◌, ◌⊎◌, Bool, not, if◌then◌else◌, List, [], ◌∷◌, ◌++◌, map, filter}
use Rattle.std.specs.List.{filter_map}
use Rattle.mr_version.specs.Name.{Name}
pub use Rattle.mr_version.specs.Sets.{nothing}
use Rattle.mr_forms.specs.Sets.{Versions}
use Rattle.mr_forms.specs.Known.{Pairs, Form, AreSame, IsOnlyOverItems, learned}
use Rattle.mr_concise.specs.declared.vector.AuthorColumn.{AuthorColumn}
use Rattle.mr_concise.specs.Vector.{HasTooManyHoles}
use Rattle.mr_mail.specs.Mail.{Mail, card_of}
use Rattle.mr_filter.specs.Meaning.{selects}
use Rattle.mr_feed.specs.declared.entry.Entry.{Entry}
use Rattle.mr_feed.specs.declared.entry.Entry.TheVariants.{Added, Dropped}
use Rattle.mr_madewith.specs.Revision.{Rev, has_below}
use Rattle.mr_madewith.specs.Trail.{last_of, noted}
use Rattle.mr_madewith.specs.MadeWith.{by_bases, filled_below, AreColumnsOf}
use Rattle.mr_store.specs.Revisions.{entered, supersedes, left_by}
pub use Rattle.mr_session.specs.Session.{if_so}
use Rattle.mr_replica.specs.State.{State, next_version, held}
use Rattle.mr_replica.specs.declared.event.Event.{Event}
use Rattle.mr_replica.specs.declared.refusal.Refusal.{Refusal}
use Rattle.mr_replica.specs.declared.refusal.Refusal.TheVariants.{TooManyHoles, TooManyItems}

-- the replica's next version: its item, the bases that it is made from, none for an item's first version, and its message
pub record Issue : Type 0 where
  pub item : Name
  pub bases : List Name
  pub message : Mail

-- a revision leaves the heads, or the push-outs
abbrev pub dropped : Rev → Entry
dropped r = Dropped r.item r.version

-- a revision enters the heads, or the push-outs
abbrev pub added : Rev → Entry
added r = Added r.item r.version (card_of r.message)

-- the revisions with one more at its place, if so
abbrev pub entered_if : Bool → Rev → List Rev → List Rev
entered_if b r rs = if b then entered r rs else rs

-- a feed after these left, in their order, and then those entered
abbrev pub told_more : List Entry → (left entering : List Rev) → List Entry
told_more feed left entering = feed ++ (map dropped left ++ map added entering)

-- what an event wants a value of, where its form may have none: a set of versions, or a knowledge
pub data Wanted : Type 0 where
  Vector : (set : Versions) → Wanted
  Knowledge : (pairs : Pairs) → Wanted

module _ {K : Type 0} where
  -- the held revisions of these versions
  abbrev pub revisions_of : State K → List Name → List Rev
  revisions_of s bases = filter_map (held s) bases

  -- what a version of the item with these bases supersedes: with no base, nothing
  abbrev pub below_for : State K → (item : Name) → (bases : List Name) → Versions
  below_for s item [] = nothing
  below_for s item (b ∷ bs) = filled_below (by_bases (revisions_of s (b ∷ bs))) (last_of s.trail item) (next_version s)

  abbrev pub below_of_issue : State K → Issue → Versions
  below_of_issue s i = below_for s i.item i.bases

  -- what is known once the replica has learned its next version for the item
  abbrev pub version_learned : Form K → State K → (item : Name) → Pairs
  version_learned form s item = learned form s.knowledge item (next_version s)

  -- what the issue wants, in the order of the tries: a vector of what its version supersedes, and the knowledge with that version
  abbrev pub wanted_by_issue : Form K → State K → Issue → List Wanted
  wanted_by_issue form s i = Vector (below_of_issue s i) ∷ Knowledge (version_learned form s i.item) ∷ []

  -- there is a value for it
  abbrev pub Fits : Form K → Wanted → Type 0
  Fits form (Vector set) = ¬ HasTooManyHoles set
  Fits form (Knowledge pairs) = (¬ form.has_too_many_holes pairs) × (¬ form.has_too_many_items pairs)

  -- the refusal tells why there is no value for it
  abbrev pub HasFault : Form K → Refusal → Wanted → Type 0
  HasFault form TooManyHoles (Vector set) = HasTooManyHoles set
  HasFault form TooManyHoles (Knowledge pairs) = form.has_too_many_holes pairs
  HasFault form TooManyItems (Knowledge pairs) = IsOnlyOverItems form pairs
  HasFault form _ _ = ⊥

  -- the refusal tells it of the first of these for which there is no value
  abbrev pub FirstFault : Form K → Refusal → List Wanted → Type 0
  FirstFault form e [] = ⊥
  FirstFault form e (w ∷ ws) = HasFault form e w ⊎ (Fits form w × FirstFault form e ws)

  -- ---- the change

  abbrev pub logged : State K → Event → State K
  logged s event = record s { log = s.log ++ event ∷ [] }

  -- Whether the replica's filter selects the revision.
  abbrev pub is_selected : State K → Rev → Bool
  is_selected s r = selects s.filter (card_of r.message)

  -- The revision is the next own one. What it supersedes leaves the heads and the push-outs; it enters the heads where the
  -- filter selects it, else the push-outs; and of either the feed tells what left and entered it.
  abbrev pub issuing : State K → K → Rev → State K
  issuing s knowledge r = record s {
    issued = s.issued + 1;
    knowledge = knowledge;
    heads = entered_if (is_selected s r) r (left_by r.item (has_below r) s.heads);
    push_outs = entered_if (not (is_selected s r)) r (left_by r.item (has_below r) s.push_outs);
    trail = noted r s.trail;
    feed = told_more s.feed (filter (supersedes r.item (has_below r)) s.heads) (if_so (is_selected s r) r);
    push_out_feed = told_more s.push_out_feed (filter (supersedes r.item (has_below r)) s.push_outs) (if_so (not (is_selected s r)) r);
  }

  -- the issue's revision, with these columns
  abbrev pub revision_for : State K → Issue → List AuthorColumn → Rev
  revision_for s i columns = record { item = i.item; version = next_version s; below = columns; message = i.message }

  -- The event made the issue: its version v is the next, and that version alone is learned.
  abbrev pub Issues : Form K → State K → Issue → (v : Name) → Event → State K → Type 0
  Issues form s i v event new =
      (v ≡ next_version s) × (columns : List AuthorColumn) × AreColumnsOf (below_of_issue s i) columns ×
      AreSame (form.known new.knowledge) (version_learned form s i.item) × (new ≡ logged (issuing s new.knowledge (revision_for s i columns)) event)
