-- what several versions of a message say together, for hosts
use Rattle.std.specs.Prelude.{ℕ, ◌<◌, Bool, true, ◌==◌, ◌&&◌, not, IsTrue, List, [], ◌∷◌, length, map, Option, option_map}
use Rattle.std.specs.List.{list_all}
use Rattle.mr_mail.specs.Label.{text_eq}
use Rattle.mr_mail.specs.Mail.{Mail}
use Rattle.mr_mail.specs.declared.label.TheConstants.{MAX_LABELS}
use Rattle.mr_maildir.specs.View.{ViewParts}
use Rattle.mr_maildir.specs.Merging.{merged_view, over}
use Rattle.mr_maildir.specs.declared.policy.MergeFault.{MergeFault}
use Rattle.mr_maildir.specs.declared.policy.MergeFault.TheVariants.{OutOfMemory, ContentsDiffer, TooManyLabels}

-- where a message stands
abbrev pub view_of : Mail → ViewParts
view_of mail = record { labels = mail.labels; flags = mail.flags }

-- two messages are one but for their labels and flags
abbrev pub is_same_content : Mail → Mail → Bool
is_same_content a b = text_eq a.from b.from && text_eq a.subject b.subject && text_eq a.body b.body && (a.day == b.day)

-- the heads are one but for their labels and flags
abbrev pub have_one_content : List Mail → Bool
have_one_content [] = true
have_one_content (head ∷ heads) = list_all (is_same_content head) heads

-- what the heads' labels and flags are together
abbrev pub view_of_heads : Option Mail → List Mail → ViewParts
view_of_heads ancestor heads = merged_view (over (option_map view_of ancestor)) (map view_of heads)

-- why heads have no place together: other contents come first, and memory may be wanting only where they are one
abbrev pub IsMergeFault : Option Mail → List Mail → MergeFault → Type 0
IsMergeFault ancestor heads OutOfMemory = IsTrue (have_one_content heads)
IsMergeFault ancestor heads ContentsDiffer = IsTrue (not (have_one_content heads))
IsMergeFault ancestor heads TooManyLabels = IsTrue (have_one_content heads) × (MAX_LABELS < length (view_of_heads ancestor heads).labels)

-- the number by which a host knows a fault
abbrev pub fault_number : MergeFault → ℕ
fault_number OutOfMemory = 0
fault_number ContentsDiffer = 1
fault_number TooManyLabels = 2
