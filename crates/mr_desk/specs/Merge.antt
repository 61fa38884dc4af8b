-- what the heads of an item say together, and the edit that makes one of them
use Rattle.std.specs.Prelude.{◌≡◌, ◌&&◌, Bool, not, nat_lt, if◌then◌else◌, List, [], ◌∷◌, length, map, filter, fold, Option, Some, None}
use Rattle.std.specs.List.{list_all}
use Rattle.std.specs.Option.{option_map}
use Rattle.mr_version.specs.Name.{Name, name_eq}
use Rattle.mr_mail.specs.Mail.{Mail, MailCard, mail_with}
use Rattle.mr_mail.specs.declared.label.TheConstants.{MAX_LABELS}
use Rattle.mr_feed.specs.declared.entry.Entry.{Entry}
use Rattle.mr_feed.specs.declared.entry.Entry.TheVariants.{Added, Dropped}
use Rattle.mr_madewith.specs.Revision.{Rev, has_below}
use Rattle.mr_store.specs.Revisions.{is_of, version_of}
use Rattle.mr_maildir.specs.View.{ViewParts}
use Rattle.mr_maildir.specs.Merging.{merged_view, over, differ}
use Rattle.mr_maildir.specs.Policy.{have_one_content, view_of}
use Rattle.mr_maildir.specs.declared.policy.MergeFault.TheVariants.{ContentsDiffer, TooManyLabels}
use Rattle.mr_itemset.specs.Normal.{Normal}
use Rattle.mr_replica.specs.Refusal.{◌orelse◌}
use Rattle.mr_replica.specs.State.{State}
use Rattle.mr_replica.specs.declared.event.Event.{Event}
use Rattle.mr_replica.specs.declared.event.Event.TheVariants as event
use Rattle.mr_desk.specs.Version.{named_by, version_fault}
use Rattle.mr_desk.specs.declared.call.VersionNumbers.{VersionNumbers}
use Rattle.mr_desk.specs.declared.fault.Fault.{Fault}
use Rattle.mr_desk.specs.declared.fault.Fault.TheVariants.{NoConflict, Version, Merge}

-- the heads of an item, in version order
abbrev pub heads_of : Name → List Rev → List Rev
heads_of item heads = filter (is_of item) heads

-- what they say
abbrev pub said_by : List Rev → List Mail
said_by heads = map (λ r. r.message) heads

-- ---- their ancestor

-- whether a head is of the item, and supersedes the version
abbrev pub is_over : (item version : Name) → Rev → Bool
is_over item version head = name_eq head.item item && has_below head version

-- the card with which a version came that each of the heads supersedes
abbrev pub card_under : List Rev → Entry → Option MailCard
card_under heads (Added item version card) = if list_all (is_over item version) heads then Some card else None
card_under heads (Dropped item version) = None

-- that of the last such version
abbrev pub last_under : List Rev → List Entry → Option MailCard
last_under heads feed = fold (λ found entry. card_under heads entry orelse found) None feed

-- ---- the merge

abbrev pub view_in : MailCard → ViewParts
view_in card = record { labels = card.labels; flags = card.flags }

-- what messages say together in labels and flags, over the card of what they came of
abbrev pub said_together : Option MailCard → List Mail → ViewParts
said_together card messages = merged_view (over (option_map view_in card)) (map view_of messages)

-- why they aren't merged: the user has to look at them, or they say the same, as one alone does
abbrev pub unmerged : Option MailCard → List Mail → Option Fault
unmerged card messages =
    if not (have_one_content messages) then Some (Merge ContentsDiffer)
    else (if nat_lt MAX_LABELS (length (said_together card messages).labels) then Some (Merge TooManyLabels)
    else (if not (differ (map view_of messages)) then Some NoConflict
    else None))

-- the message that they are together: the first of them, where they are one but for labels and flags
abbrev pub IsTogether : Option MailCard → List Mail → Mail → Type 0
IsTogether card [] mail = ⊥
IsTogether card (first ∷ others) mail =
    let view = said_together card (first ∷ others) in
    mail ≡ mail_with first.from first.subject first.body (record { labels = view.labels; flags = view.flags; day = first.day })

-- why heads aren't merged, and the edit that makes one of them, over the last version that came and that they all supersede
abbrev pub edit_fault_over : List Rev → List Entry → Option Fault
edit_fault_over heads feed = unmerged (last_under heads feed) (said_by heads)

abbrev pub IsEditOver : List Rev → List Entry → Event → Type 0
IsEditOver heads feed (event.Edit bases message) = (bases ≡ map version_of heads) × IsTogether (last_under heads feed) (said_by heads) message
IsEditOver heads feed e = ⊥

-- why the heads of an item are not merged
abbrev pub merge_fault : List Rev → List Entry → Name → Option Fault
merge_fault heads feed item = edit_fault_over (heads_of item heads) feed

abbrev pub IsMergeOf : List Rev → List Entry → Name → Event → Type 0
IsMergeOf heads feed item e = IsEditOver (heads_of item heads) feed e

-- why a replica does not merge the heads of an item that is named by its numbers: first what is wrong with these
abbrev pub merge_fault_in : State Normal → VersionNumbers → Option Fault
merge_fault_in s item = option_map Version (version_fault item) orelse merge_fault s.heads s.feed (named_by item)

abbrev pub IsMergeIn : State Normal → VersionNumbers → Event → Type 0
IsMergeIn s item e = IsMergeOf s.heads s.feed (named_by item) e
