-- worked rows: what the definitions give for small values
use Rattle.std.specs.Prelude.{◌≡◌, ℕ, true, false, List, [], ◌∷◌, ◌++◌, codes, refl}
use Rattle.mr_version.specs.Name.{Name}
use Rattle.mr_mail.specs.declared.flags.Flag.TheVariants.{Answered, Flagged}
use Rattle.mr_joins.specs.declared.element.Element.{Element}
use Rattle.mr_joins.specs.declared.element.Element.TheVariants as element
use Rattle.mr_joins.specs.declared.mark.Mark.{Mark}
use Rattle.mr_joins.specs.Count.{even_count, next_odd_count}
use Rattle.mr_joins.specs.Word.{is_word}
use Rattle.mr_joins.specs.View.{ViewParts}
use Rattle.mr_joins.specs.Value.{joined, says}
use Rattle.mr_joins.specs.Shown.{first_labels, shown_view}
use Rattle.mr_joins.specs.Edited.{new_mail, edited}

-- two deliveries of one mail
abbrev x : Name
x = record { author = 1; counter = 1 }

abbrev y : Name
y = record { author = 2; counter = 1 }

-- a mark of an element of a delivery: so often raised, and so often as the mail was deleted
abbrev m : Name → Element → ℕ → ℕ → Mark
m item e raised gone = record { item = item; element = e; count = record { raised = raised; gone = gone } }

abbrev folder : List ℕ → Element
folder label = element.Folder label

abbrev inbox : Element
inbox = folder (codes "inbox")

abbrev play : Element
play = folder (codes "play")

abbrev work : Element
work = folder (codes "work")

abbrev flagged : Element
flagged = element.Flag Flagged

abbrev answered : Element
answered = element.Flag Answered

-- a view of these folders and flags: answered is 2, flagged 4, deleted 16
abbrev in_folders : List (List ℕ) → ℕ → ViewParts
in_folders labels flags = record { labels = labels; flags = flags }

-- ---- counts and words

pub left : even_count (record { raised = 1; gone = 0 }) ≡ record { raised = 2; gone = 0 }
left = refl

pub left_again : even_count (record { raised = 2; gone = 1 }) ≡ record { raised = 2; gone = 1 }
left_again = refl

pub set_anew : next_odd_count (record { raised = 1; gone = 1 }) ≡ record { raised = 3; gone = 1 }
set_anew = refl

pub tag : is_word (codes "+later") ≡ true
tag = refl

pub flag_is_no_word : is_word (codes "F") ≡ false
flag_is_no_word = refl

pub label_is_no_word : is_word (codes "later") ≡ false
label_is_no_word = refl

-- ---- heads together, and what is shown

-- both flag
pub both_flag : joined ((m x flagged 1 0 ∷ m x inbox 1 0 ∷ []) ∷ (m x answered 1 0 ∷ m x inbox 1 0 ∷ []) ∷ []) ≡ m x flagged 1 0 ∷ m x answered 1 0 ∷ m x inbox 1 0 ∷ []
both_flag = refl

-- both told that, and one takes his flag off
pub flag_taken : shown_view (joined ((m x flagged 1 0 ∷ m x answered 1 0 ∷ m x inbox 1 0 ∷ []) ∷ (m x flagged 2 0 ∷ m x answered 1 0 ∷ m x inbox 1 0 ∷ []) ∷ [])) ≡ in_folders (codes "inbox" ∷ []) 2
flag_taken = refl

-- each side takes another folder
pub both_taken : shown_view (joined ((m x inbox 2 0 ∷ m x play 1 0 ∷ []) ∷ (m x inbox 1 0 ∷ m x play 2 0 ∷ []) ∷ [])) ≡ in_folders (codes "inbox" ∷ []) 0
both_taken = refl

-- both move
pub both_moved : shown_view (joined ((m x inbox 2 0 ∷ m x play 1 0 ∷ []) ∷ (m x inbox 2 0 ∷ m x work 1 0 ∷ []) ∷ [])) ≡ in_folders (codes "play" ∷ codes "work" ∷ []) 0
both_moved = refl

-- deleted, and flagged beside that
pub deleted_and_flagged : shown_view (joined ((m x inbox 1 1 ∷ []) ∷ (m x flagged 1 0 ∷ m x inbox 1 0 ∷ []) ∷ [])) ≡ in_folders (codes "inbox" ∷ []) 4
deleted_and_flagged = refl

-- deleted, and the other side hasn't heard
pub deleted_unheard : shown_view (joined ((m x inbox 1 1 ∷ []) ∷ (m x inbox 1 0 ∷ []) ∷ [])) ≡ in_folders [] 16
deleted_unheard = refl

-- deleted, and taken from one of its folders beside that
pub deleted_and_taken : shown_view (joined ((m x inbox 1 1 ∷ m x play 1 1 ∷ []) ∷ (m x inbox 1 0 ∷ m x play 2 0 ∷ []) ∷ [])) ≡ in_folders (codes "inbox" ∷ []) 0
deleted_and_taken = refl

-- two deletions that each knew one of two flags, and the join of the flags
pub two_deletions : shown_view (joined ((m x flagged 1 1 ∷ m x inbox 1 1 ∷ []) ∷ (m x answered 1 1 ∷ m x inbox 1 1 ∷ []) ∷ (m x flagged 1 0 ∷ m x answered 1 0 ∷ m x inbox 1 0 ∷ []) ∷ [])) ≡ in_folders [] 16
two_deletions = refl

-- put back into two folders
pub put_back_twice : shown_view (joined ((m x inbox 2 1 ∷ m x play 1 0 ∷ []) ∷ (m x inbox 3 1 ∷ []) ∷ [])) ≡ in_folders (codes "inbox" ∷ codes "play" ∷ []) 0
put_back_twice = refl

-- one delivery moved, the other one delivered elsewhere
pub moved_and_delivered : shown_view (joined ((m x inbox 2 0 ∷ m x play 1 0 ∷ []) ∷ (m y inbox 1 0 ∷ []) ∷ [])) ≡ in_folders (codes "inbox" ∷ codes "play" ∷ []) 0
moved_and_delivered = refl

-- one delivery deleted, the other one delivered elsewhere
pub deleted_and_delivered : shown_view (joined ((m x inbox 1 1 ∷ []) ∷ (m y inbox 1 0 ∷ []) ∷ [])) ≡ in_folders (codes "inbox" ∷ []) 0
deleted_and_delivered = refl

-- what isn't known is kept, and shown in nothing
pub tagged : shown_view (m x (element.Other (codes "+later")) 1 0 ∷ m x inbox 1 0 ∷ []) ≡ in_folders (codes "inbox" ∷ []) 0
tagged = refl

-- ---- edits

pub new : new_mail x (codes "inbox" ∷ codes "play" ∷ []) 6 ≡ m x flagged 1 0 ∷ m x answered 1 0 ∷ m x inbox 1 0 ∷ m x play 1 0 ∷ []
new = refl

pub moved : edited (m x inbox 1 0 ∷ []) x (codes "play" ∷ []) 0 ≡ m x inbox 2 0 ∷ m x play 1 0 ∷ []
moved = refl

pub unflagged : edited (m x flagged 1 0 ∷ m x inbox 1 0 ∷ []) x (codes "inbox" ∷ []) 0 ≡ m x flagged 2 0 ∷ m x inbox 1 0 ∷ []
unflagged = refl

pub removed : edited (m x inbox 1 0 ∷ m x play 1 0 ∷ []) x [] 0 ≡ m x inbox 1 1 ∷ m x play 1 1 ∷ []
removed = refl

pub put_back : edited (m x flagged 1 1 ∷ m x inbox 1 1 ∷ []) x (codes "inbox" ∷ []) 0 ≡ m x flagged 2 1 ∷ m x inbox 3 1 ∷ []
put_back = refl

-- in the inbox for want of a folder: a flag leaves it so, and an edit of folders says it
pub wanting_flagged : edited (m x inbox 2 0 ∷ m x play 2 0 ∷ []) x (codes "inbox" ∷ []) 4 ≡ m x flagged 1 0 ∷ m x inbox 2 0 ∷ m x play 2 0 ∷ []
wanting_flagged = refl

pub wanting_moved : edited (m x inbox 2 0 ∷ m x play 2 0 ∷ []) x (codes "play" ∷ []) 0 ≡ m x inbox 2 0 ∷ m x play 3 0 ∷ []
wanting_moved = refl

pub wanting_copied : edited (m x inbox 2 0 ∷ m x play 2 0 ∷ []) x (codes "inbox" ∷ codes "play" ∷ []) 0 ≡ m x inbox 3 0 ∷ m x play 3 0 ∷ []
wanting_copied = refl

-- raised by the first delivery, left by both
pub of_two : edited (m x inbox 2 0 ∷ m x play 1 0 ∷ m y inbox 1 0 ∷ []) x (codes "play" ∷ codes "work" ∷ []) 0 ≡ m x inbox 2 0 ∷ m x play 1 0 ∷ m x work 1 0 ∷ m y inbox 2 0 ∷ []
of_two = refl

-- ---- more than sixteen folders

-- fourteen labels before the inbox
abbrev fourteen : List (List ℕ)
fourteen = codes "a0" ∷ codes "a1" ∷ codes "a2" ∷ codes "a3" ∷ codes "a4" ∷ codes "a5" ∷ codes "a6" ∷ codes "a7" ∷ codes "a8" ∷ codes "a9" ∷ codes "b0" ∷ codes "b1" ∷ codes "b2" ∷ codes "b3" ∷ []

pub inbox_among : first_labels (fourteen ++ codes "inbox" ∷ codes "play" ∷ codes "work" ∷ []) ≡ fourteen ++ codes "inbox" ∷ codes "play" ∷ []
inbox_among = refl

pub inbox_behind : first_labels (fourteen ++ codes "b4" ∷ codes "b5" ∷ codes "inbox" ∷ []) ≡ fourteen ++ codes "b4" ∷ codes "inbox" ∷ []
inbox_behind = refl

pub no_inbox : first_labels (fourteen ++ codes "b4" ∷ codes "b5" ∷ codes "play" ∷ []) ≡ fourteen ++ codes "b4" ∷ codes "b5" ∷ []
no_inbox = refl

-- in seventeen folders, of which work is beyond
abbrev seventeen : List Mark
seventeen = new_mail x (fourteen ++ codes "inbox" ∷ codes "play" ∷ codes "work" ∷ []) 0

-- taken from all but play: what is beyond is taken too
pub taken_beyond : says (edited seventeen x (codes "play" ∷ []) 0) (x, work) ≡ record { raised = 2; gone = 0 }
taken_beyond = refl

-- moved from play to the one beyond, which is raised by two
pub moved_beyond : says (edited seventeen x (fourteen ++ codes "inbox" ∷ codes "work" ∷ []) 0) (x, work) ≡ record { raised = 3; gone = 0 }
moved_beyond = refl

-- flagged: what is beyond stays
pub flagged_beside : says (edited seventeen x (fourteen ++ codes "inbox" ∷ codes "play" ∷ []) 4) (x, work) ≡ record { raised = 1; gone = 0 }
flagged_beside = refl
