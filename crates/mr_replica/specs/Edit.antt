-- Edit: a version that supersedes held versions of one item.
use Rattle.std.specs.Prelude.{◌==◌, ℕ, Bool, not, ◌&&◌, if◌then◌else◌, Option, Some, None, List, [], ◌∷◌, is_none, find}
use Rattle.std.specs.List.{list_all}
use Rattle.std.specs.Option.{option_map}
use Rattle.mr_version.specs.Name.{Name, name_eq}
use Rattle.mr_forms.specs.Sets.{is_listed}
use Rattle.mr_mail.specs.Mail.{Mail}
use Rattle.mr_madewith.specs.Revision.{Rev}
use Rattle.mr_madewith.specs.Keyed.{is_before}
use Rattle.mr_store.specs.Revisions.{versions_of}
use Rattle.mr_replica.specs.State.{State, next_version, held, item_of_held}
use Rattle.mr_replica.specs.Refusal.{◌orelse◌, refused_if}
use Rattle.mr_replica.specs.Issue.{Issue}
use Rattle.mr_replica.specs.Admission.{retired, log_full}
use Rattle.mr_replica.specs.declared.refusal.Refusal.{Refusal}
use Rattle.mr_replica.specs.declared.refusal.Refusal.TheVariants.{NoBase, NotHeld, MixedItems, OwnHeadLeft}

-- the lower of two versions, where there are any
abbrev pub lower_of : Option Name → Option Name → Option Name
lower_of None b = b
lower_of (Some a) None = Some a
lower_of (Some a) (Some b) = Some (if is_before b a then b else a)

-- the lowest of these revisions' versions that is the author's, of the item, and not among the bases
abbrev pub left_out : (author : ℕ) → (item : Name) → (bases : List Name) → List Rev → Option Name
left_out author item bases rs = find (λ v. (v.author == author) && not (is_listed bases v)) (versions_of item rs)

module _ {K : Type 0} where
  -- the lowest held own version of the item that is not among the bases
  abbrev pub own_left : State K → (item : Name) → (bases : List Name) → Option Name
  own_left s item bases = lower_of (left_out s.id item bases s.heads) (left_out s.id item bases s.push_outs)

  -- the first of these versions that is not held
  abbrev pub not_held : State K → List Name → Option Name
  not_held s bases = find (λ v. is_none (held s v)) bases

  -- they are all held as versions of the item
  abbrev pub are_all_of : State K → (item : Name) → List Name → Bool
  are_all_of s item bases = list_all (λ v. name_eq (item_of_held s v) item) bases

  -- the item of the first base
  abbrev pub edited_item : State K → List Name → Name
  edited_item s [] = next_version s
  edited_item s (b ∷ bs) = item_of_held s b

  -- there must be bases, all held and of one item
  abbrev pub item_refusal : State K → List Name → Option Refusal
  item_refusal s [] = Some NoBase
  item_refusal s (b ∷ bs) =
      option_map NotHeld (not_held s (b ∷ bs)) orelse refused_if (not (are_all_of s (item_of_held s b) (b ∷ bs))) MixedItems

  -- why it is refused: the bases must also leave out no own version of the item
  abbrev pub edit_refusal : State K → List Name → Option Refusal
  edit_refusal s bases = retired s orelse item_refusal s bases orelse option_map OwnHeadLeft (own_left s (edited_item s bases) bases) orelse log_full s

  -- what it issues
  abbrev pub edited : State K → List Name → Mail → Issue
  edited s bases message = record { item = edited_item s bases; bases = bases; message = message }
