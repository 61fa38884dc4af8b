-- worked rows: what the definitions give for small values
use Rattle.std.specs.Prelude.{◌≡◌, ℕ, Bool, true, false, List, [], ◌∷◌, ◌++◌, map, replicate, codes, Option, Some, None, refl}
use Rattle.mr_version.specs.Name.{Name}
use Rattle.mr_mail.specs.Mail.{MailCard}
use Rattle.mr_feed.specs.declared.entry.Entry.{Entry}
use Rattle.mr_feed.specs.declared.entry.Entry.TheVariants.{Added, Dropped}
use Rattle.mr_maildir.specs.View.{ViewParts}
use Rattle.mr_maildir.specs.declared.act.Act.TheVariants.{Agree, Create, Edit, Delete, Follow, Remove}
use Rattle.mr_compare.specs.declared.compare.Standing.{Standing}
use Rattle.mr_compare.specs.declared.note.FolderNote.TheVariants.{Shown, Met}
use Rattle.mr_compare.specs.Note.{note_bytes}
use Rattle.mr_compare.specs.Left.{item_cards, last_told, is_told}
use Rattle.mr_compare.specs.Compare.{act_for, told_for, due_acts, deletions}
use Rattle.mr_compare.specs.Sides.{are_same, left_of_held}
use Rattle.mr_compare.specs.Undecided.{is_undecided, first_undecided}
use Rattle.mr_compare.specs.Joining.{together, lowest, standing_of, mail_of}
use Rattle.mr_compare.specs.MailsLeft.{news_told, cards_told, left_mail}

abbrev name : ℕ → ℕ → Name
name author counter = record { author = author; counter = counter }

-- ---- notes

-- 258 entries are shown, and of these the item 1.2 lacks its file
pub shown_row : note_bytes (Shown (record { entries = 258; lacking = name 1 2 ∷ [] })) ≡ 0 ∷ 0 ∷ 0 ∷ 0 ∷ 0 ∷ 0 ∷ 1 ∷ 2 ∷ 0 ∷ 0 ∷ 0 ∷ 1 ∷ 0 ∷ 1 ∷ 0 ∷ 0 ∷ 0 ∷ 2 ∷ []
shown_row = refl

pub nothing_shown_row : note_bytes (Shown (record { entries = 0; lacking = [] })) ≡ replicate 12 0
nothing_shown_row = refl

-- 3 was met at 256
pub met_row : note_bytes (Met (record { id = 3; birth = replicate 16 7; mine = replicate 32 8; theirs = replicate 32 9; time = 256 })) ≡ 0 ∷ 3 ∷ (replicate 16 7 ++ (replicate 32 8 ++ (replicate 32 9 ++ 0 ∷ 0 ∷ 0 ∷ 0 ∷ 0 ∷ 0 ∷ 1 ∷ 0 ∷ [])))
met_row = refl

-- ---- what was left

abbrev card : ℕ → MailCard
card flags = record { labels = codes "inbox" ∷ []; flags = flags; day = 0 }

-- the item 0.1 was made, and read elsewhere; another item came between
abbrev beginning : List Entry
beginning = Added (name 0 1) (name 0 1) (card 0) ∷ Added (name 2 1) (name 2 1) (card 4) ∷ Dropped (name 0 1) (name 0 1) ∷ Added (name 0 1) (name 1 1) (card 1) ∷ []

-- its edit alone is left of it
pub left_row : map (item_cards beginning (name 0 1)) (name 0 1 ∷ name 1 1 ∷ name 2 1 ∷ []) ≡ None ∷ Some (card 1) ∷ None ∷ []
left_row = refl

pub last_told_row : last_told beginning (name 0 1) ≡ Some (Some (card 1))
last_told_row = refl

-- an item that came and went was added last so
pub gone_row : last_told (Added (name 3 1) (name 3 1) (card 4) ∷ Dropped (name 3 1) (name 3 1) ∷ []) (name 3 1) ≡ Some (Some (card 4))
gone_row = refl

-- one that only went
pub dropped_row : last_told (Dropped (name 3 1) (name 3 1) ∷ []) (name 3 1) ≡ Some None
dropped_row = refl

pub untold_row : is_told beginning (name 3 1) ≡ false
untold_row = refl

-- ---- what is done

abbrev inbox : ViewParts
inbox = record { labels = codes "inbox" ∷ []; flags = 0 }

abbrev work : ViewParts
work = record { labels = codes "work" ∷ []; flags = 0 }

abbrev standing : (left seen held : Option ViewParts) → (file certain own : Bool) → Standing
standing left seen held file certain own = record { digest = codes "d"; first = None; left = left; seen = seen; held = held; is_merge_due = false; has_file = file; is_certain = certain; is_own = own }

-- removed here, as two listings say
pub removed_row : act_for (standing (Some inbox) None (Some inbox) true true false) ≡ Delete
removed_row = refl

-- one listing alone isn't believed
pub one_listing_row : act_for (standing (Some inbox) None (Some inbox) true false false) ≡ Agree
one_listing_row = refl

-- a mail whose file never came is neither deleted nor shown
pub lacking_row : act_for (standing (Some inbox) None (Some inbox) false true false) ≡ Agree
lacking_row = refl

pub lacking_moved_row : act_for (standing (Some inbox) None (Some work) false true false) ≡ Agree
lacking_moved_row = refl

-- moved here: it leaves a folder, so that one listing isn't enough
pub moved_row : map act_for (standing (Some inbox) (Some work) (Some inbox) true true false ∷ standing (Some inbox) (Some work) (Some inbox) true false false ∷ []) ≡ Edit work ∷ Agree ∷ []
moved_row = refl

-- read here: one listing is enough
pub read_row : act_for (standing (Some inbox) (Some (record { labels = codes "inbox" ∷ []; flags = 1 })) (Some inbox) true false false) ≡ Edit (record { labels = codes "inbox" ∷ []; flags = 1 })
read_row = refl

-- new, and one that came and went while the program was stopped
pub new_row : map act_for (standing None (Some inbox) None true true false ∷ standing None (Some inbox) None true true true ∷ []) ≡ Create ∷ Remove ∷ []
new_row = refl

-- left the filter
pub left_the_filter_row : act_for (standing (Some inbox) (Some inbox) None true true false) ≡ Remove
left_the_filter_row = refl

-- nothing is told of what agrees, and one is deleted
pub list_row : due_acts (standing (Some inbox) (Some inbox) (Some inbox) true true false ∷ standing (Some inbox) None (Some inbox) true true false ∷ []) ≡ record { digest = codes "d"; act = Delete } ∷ []
list_row = refl

pub deletions_row : deletions (standing (Some inbox) (Some inbox) (Some inbox) true true false ∷ standing (Some inbox) None (Some inbox) true true false ∷ []) ≡ 1
deletions_row = refl

-- ---- merges

abbrev to_merge : Standing → Standing
to_merge mail = record mail { is_merge_due = true }

-- heads that differ are merged where the Maildir agrees with them together, and where it only follows
pub merged_row : map told_for (to_merge (standing (Some inbox) (Some inbox) (Some inbox) true true false) ∷ to_merge (standing (Some inbox) (Some inbox) (Some work) true true false) ∷ []) ≡ Edit inbox ∷ Edit work ∷ []
merged_row = refl

-- what is told anyway merges them, and a deletion does
pub told_row : map told_for (to_merge (standing (Some inbox) (Some work) (Some inbox) true true false) ∷ to_merge (standing (Some inbox) None (Some inbox) true true false) ∷ []) ≡ Edit work ∷ Delete ∷ []
told_row = refl

-- where nothing is held there is nothing to merge, and without a merge that is due none is made
pub unheld_row : told_for (to_merge (standing (Some inbox) (Some inbox) None true true false)) ≡ Remove
unheld_row = refl

pub undue_row : map told_for (standing (Some inbox) (Some inbox) (Some inbox) true true false ∷ standing (Some inbox) (Some inbox) (Some work) true true false ∷ []) ≡ Agree ∷ Follow ∷ []
undue_row = refl

-- ---- what isn't decided

abbrev read_inbox : ViewParts
read_inbox = record { labels = codes "inbox" ∷ []; flags = 1 }

-- moved here and read elsewhere: one listing isn't enough to tell the move, and it can't wait
pub undecided_row : map is_undecided (standing (Some inbox) (Some work) (Some read_inbox) true false false ∷ standing (Some inbox) (Some work) (Some read_inbox) true true false ∷ []) ≡ true ∷ false ∷ []
undecided_row = refl

-- moved here alone: the move waits, unless a merge is due
pub waiting_row : map is_undecided (standing (Some inbox) (Some work) (Some inbox) true false false ∷ to_merge (standing (Some inbox) (Some work) (Some inbox) true false false) ∷ []) ≡ false ∷ true ∷ []
waiting_row = refl

-- removed here alone likewise; what has no file here was not removed
pub waiting_removal_row : map is_undecided (standing (Some inbox) None (Some inbox) true false false ∷ to_merge (standing (Some inbox) None (Some inbox) true false false) ∷ to_merge (standing (Some inbox) None (Some inbox) false false false) ∷ []) ≡ false ∷ true ∷ false ∷ []
waiting_removal_row = refl

-- removed here and moved elsewhere, it follows; so does what only moved elsewhere; what is read here and moved elsewhere is told
pub decided_row : map is_undecided (standing (Some inbox) None (Some work) true false false ∷ standing (Some inbox) (Some inbox) (Some work) true false false ∷ standing (Some inbox) (Some read_inbox) (Some work) true false false ∷ []) ≡ false ∷ false ∷ false ∷ []
decided_row = refl

-- the second of two is the first one
pub first_undecided_row : first_undecided (standing (Some inbox) (Some work) (Some inbox) true false false ∷ record (standing (Some inbox) (Some work) (Some read_inbox) true false false) { digest = codes "e" } ∷ []) ≡ Some (codes "e")
first_undecided_row = refl

pub none_undecided_row : first_undecided (standing (Some inbox) (Some work) (Some inbox) true false false ∷ []) ≡ None
none_undecided_row = refl

-- ---- sides

pub same_row : map (are_same (Some inbox)) (Some inbox ∷ Some work ∷ None ∷ []) ≡ true ∷ false ∷ false ∷ []
same_row = refl

-- what the feed didn't change was left as it is held
pub unchanged_row : left_of_held None inbox ≡ Some inbox
unchanged_row = refl

-- ---- mails of several items

abbrev gone : ViewParts
gone = record { labels = []; flags = 16 }

abbrev both : ViewParts
both = record { labels = codes "inbox" ∷ codes "work" ∷ []; flags = 0 }

-- what stands in two folders stands in both, what is gone has no say beside others, and nothing is nothing
pub together_row : map together ((inbox ∷ work ∷ []) ∷ (gone ∷ inbox ∷ []) ∷ (gone ∷ gone ∷ []) ∷ [] ∷ []) ≡ Some both ∷ Some inbox ∷ Some gone ∷ None ∷ []
together_row = refl

pub lowest_row : map lowest ((name 1 9 ∷ name 0 4 ∷ name 0 7 ∷ []) ∷ [] ∷ []) ≡ Some (name 0 4) ∷ None ∷ []
lowest_row = refl

-- two heads of one item that differ, and an item without any
pub heads_row : standing_of (codes "d", name 0 1) (record { version = name 0 2; view = inbox } ∷ record { version = name 1 1; view = work } ∷ []) (Some inbox) ≡ (codes "d", record { item = name 0 1; versions = name 0 2 ∷ name 1 1 ∷ []; view = work; is_merge_due = true }) ∷ []
heads_row = refl

pub no_heads_row : standing_of (codes "d", name 0 1) [] None ≡ []
no_heads_row = refl

-- without a version there is no mail
pub no_version_row : mail_of (codes "d") None (Some inbox) true ≡ []
no_version_row = refl

-- two items of one mail changed, of which one came; a third is of a mail that isn't known
pub news_row : news_told ((name 0 1, None) ∷ (name 0 2, Some (card 0)) ∷ (name 3 1, Some (card 0)) ∷ []) ((name 0 1, codes "d") ∷ (name 0 2, codes "d") ∷ []) ≡ (codes "d", false) ∷ (codes "d", true) ∷ []
news_row = refl

pub cards_row : cards_told (((name 0 1, name 1 1), card 1) ∷ ((name 3 1, name 3 1), card 0) ∷ []) ((name 0 1, codes "d") ∷ []) ≡ (codes "d", record { labels = codes "inbox" ∷ []; flags = 1 }) ∷ []
cards_row = refl

-- it came if one of them did; where nothing of it changed nothing is said, and where it was nowhere it has no view
pub left_mail_row : left_mail (inbox ∷ []) (false ∷ true ∷ []) ≡ Some (record { view = Some inbox; came = true })
left_mail_row = refl

pub not_left_row : left_mail (inbox ∷ []) [] ≡ None
not_left_row = refl

pub new_mail_row : left_mail [] (true ∷ []) ≡ Some (record { view = None; came = true })
new_mail_row = refl
