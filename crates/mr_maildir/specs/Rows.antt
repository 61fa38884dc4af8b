-- worked rows: what the definitions give for small values
use Rattle.std.specs.Prelude.{◌≡◌, true, false, [], ◌∷◌, ◌++◌, codes, replicate, Some, None, refl}
use Rattle.mr_maildir.specs.Letters.{flags_told, is_info_byte, letters_with}
use Rattle.mr_maildir.specs.Folder.{label_of, is_plain, is_safe_folder, folder_name}
use Rattle.mr_maildir.specs.Told.{told_by, name_key, folder_key, with_name}
use Rattle.mr_maildir.specs.Name.{name_text, is_safe_name}
use Rattle.mr_maildir.specs.View.{ViewParts, in_order, is_gone, nowhere}
use Rattle.mr_maildir.specs.Merging.{merged_view, differ}
use Rattle.mr_maildir.specs.Act.{act_of}
use Rattle.mr_maildir.specs.declared.act.Act.TheVariants.{Agree, Create, Edit, Delete, Follow, Remove}

-- ---- letters and names

-- draft and seen are 8 and 1; `P` tells no flag
pub told : flags_told (codes "DPS") ≡ 9
told = refl

pub untold : flags_told (codes "a") ≡ 0
untold = refl

pub five : flags_told (codes "TSRFD") ≡ 31
five = refl

pub written : name_text (record { unique = codes "1700000000.M1P2.host"; letters = Some (codes "FS") }) ≡ codes "1700000000.M1P2.host:2,FS"
written = refl

-- a name in `new` has no letters, and one in `cur` may have none behind `:2,`
pub unread : name_text (record { unique = codes "1.2.host"; letters = None }) ≡ codes "1.2.host"
unread = refl

pub no_letters : name_text (record { unique = codes "1.2.host"; letters = Some [] }) ≡ codes "1.2.host:2,"
no_letters = refl

pub slash_is_no_letter : is_info_byte 47 ≡ false
slash_is_no_letter = refl

pub safe : is_safe_name (codes "1700000000.M1P2V3_0.host,S=12=a+b-c") ≡ true
safe = refl

pub longest : is_safe_name (replicate 200 97) ≡ true
longest = refl

pub too_long : is_safe_name (replicate 201 97) ≡ false
too_long = refl

pub no_name : is_safe_name [] ≡ false
no_name = refl

-- no slash, no leading dot, no colon, no space
pub with_slash : is_safe_name (codes "a/b") ≡ false
with_slash = refl

pub hidden : is_safe_name (codes ".a") ≡ false
hidden = refl

pub above : is_safe_name (codes "..") ≡ false
above = refl

pub with_colon : is_safe_name (codes "a:2,S") ≡ false
with_colon = refl

pub with_space : is_safe_name (codes "a b") ≡ false
with_space = refl

-- ---- views

abbrev inbox : ViewParts
inbox = record { labels = codes "inbox" ∷ []; flags = 0 }

-- the same, seen, flagged, and counted as deleted while it still stands there
abbrev seen_inbox : ViewParts
seen_inbox = record { labels = codes "inbox" ∷ []; flags = 1 }

abbrev flagged_inbox : ViewParts
flagged_inbox = record { labels = codes "inbox" ∷ []; flags = 4 }

abbrev deleted_inbox : ViewParts
deleted_inbox = record { labels = codes "inbox" ∷ []; flags = 16 }

abbrev work : ViewParts
work = record { labels = codes "work" ∷ []; flags = 0 }

abbrev gone : ViewParts
gone = record { labels = []; flags = 16 }

pub ordered : in_order (codes "work" ∷ codes "a" ∷ codes "inbox" ∷ codes "a" ∷ []) ≡ codes "a" ∷ codes "inbox" ∷ codes "work" ∷ []
ordered = refl

pub is_gone_row : is_gone gone ≡ true
is_gone_row = refl

-- a mail in no folder is not gone unless it counts as deleted, nor one that counts as deleted and stands in a folder
pub nowhere_not_gone : is_gone nowhere ≡ false
nowhere_not_gone = refl

pub deleted_not_gone : is_gone deleted_inbox ≡ false
deleted_not_gone = refl

-- ---- heads together

-- one who reads and one who files both win
pub read_and_filed : merged_view inbox (seen_inbox ∷ work ∷ []) ≡ record { labels = codes "work" ∷ []; flags = 1 }
read_and_filed = refl

-- what one head took away stays away
pub unread_again : merged_view seen_inbox (inbox ∷ record { labels = codes "inbox" ∷ []; flags = 5 } ∷ []) ≡ flagged_inbox
unread_again = refl

-- with no ancestor all comes together
pub no_ancestor : merged_view nowhere (seen_inbox ∷ work ∷ []) ≡ record { labels = codes "inbox" ∷ codes "work" ∷ []; flags = 1 }
no_ancestor = refl

-- one head alone can't say that a mail is deleted
pub deleted_by_one : merged_view inbox (deleted_inbox ∷ seen_inbox ∷ []) ≡ seen_inbox
deleted_by_one = refl

pub deleted_by_both : merged_view inbox (deleted_inbox ∷ deleted_inbox ∷ []) ≡ deleted_inbox
deleted_by_both = refl

-- a head whose mail is gone takes no folder away from the others
pub gone_has_no_say : merged_view inbox (gone ∷ seen_inbox ∷ []) ≡ seen_inbox
gone_has_no_say = refl

pub gone_for_all : merged_view inbox (gone ∷ gone ∷ []) ≡ gone
gone_for_all = refl

-- three heads: work came by one, and inbox went by one
pub of_three : merged_view inbox (seen_inbox ∷ flagged_inbox ∷ work ∷ []) ≡ record { labels = codes "work" ∷ []; flags = 5 }
of_three = refl

pub alike : differ (work ∷ work ∷ work ∷ []) ≡ false
alike = refl

pub differing : differ (work ∷ work ∷ inbox ∷ []) ≡ true
differing = refl

pub single : differ (work ∷ []) ≡ false
single = refl

-- ---- what is done: left, seen, held

pub nothing : act_of None None None ≡ Agree
nothing = refl

-- another program delivered it
pub delivered : act_of None (Some inbox) None ≡ Create
delivered = refl

-- a mail of a peer
pub came : act_of None None (Some inbox) ≡ Follow
came = refl

-- it was linked, and the program was stopped before it noted so
pub unnoted : act_of None (Some inbox) (Some inbox) ≡ Agree
unnoted = refl

-- both had it before they met: what both say comes together
pub both_had_it : act_of None (Some seen_inbox) (Some work) ≡ Edit (record { labels = codes "inbox" ∷ codes "work" ∷ []; flags = 1 })
both_had_it = refl

-- a peer had deleted a mail that stands here, as a file that this program never saw: it is told again
pub restored : act_of None (Some inbox) (Some gone) ≡ Edit inbox
restored = refl

-- removed here after it left the filter
pub removed_and_left : act_of (Some inbox) None None ≡ Agree
removed_and_left = refl

-- it left the filter, also where it was changed here before
pub left_the_filter : act_of (Some inbox) (Some inbox) None ≡ Remove
left_the_filter = refl

pub left_the_filter_changed : act_of (Some inbox) (Some work) None ≡ Remove
left_the_filter_changed = refl

-- removed here
pub removed : act_of (Some inbox) None (Some inbox) ≡ Delete
removed = refl

-- removed here and changed elsewhere: it comes back
pub changed_elsewhere : act_of (Some inbox) None (Some work) ≡ Follow
changed_elsewhere = refl

-- removed here and deleted elsewhere
pub gone_on_both_sides : act_of (Some inbox) None (Some gone) ≡ Agree
gone_on_both_sides = refl

-- unchanged
pub unchanged : act_of (Some inbox) (Some inbox) (Some inbox) ≡ Agree
unchanged = refl

-- moved elsewhere
pub moved_elsewhere : act_of (Some inbox) (Some inbox) (Some work) ≡ Follow
moved_elsewhere = refl

-- deleted elsewhere
pub deleted_elsewhere : act_of (Some inbox) (Some inbox) (Some gone) ≡ Remove
deleted_elsewhere = refl

-- moved here
pub moved_here : act_of (Some inbox) (Some work) (Some inbox) ≡ Edit work
moved_here = refl

-- marked here as deleted
pub marked_here : act_of (Some inbox) (Some deleted_inbox) (Some inbox) ≡ Edit deleted_inbox
marked_here = refl

-- the same was done on both sides
pub alike_on_both_sides : act_of (Some inbox) (Some work) (Some work) ≡ Agree
alike_on_both_sides = refl

-- read here and moved elsewhere
pub changed_on_both_sides : act_of (Some inbox) (Some seen_inbox) (Some work) ≡ Edit (record { labels = codes "work" ∷ []; flags = 1 })
changed_on_both_sides = refl

-- read here, and moved and read elsewhere: nothing is left to tell
pub nothing_to_tell : act_of (Some inbox) (Some seen_inbox) (Some (record { labels = codes "work" ∷ []; flags = 1 })) ≡ Follow
nothing_to_tell = refl

-- read here and deleted elsewhere: it stays
pub changed_here : act_of (Some inbox) (Some seen_inbox) (Some gone) ≡ Edit seen_inbox
changed_here = refl

-- deleted before, and there again
pub there_again : act_of (Some gone) (Some inbox) (Some gone) ≡ Edit inbox
there_again = refl

-- what was deleted stays so
pub still_gone : act_of (Some gone) None (Some gone) ≡ Agree
still_gone = refl

-- deleted before, changed elsewhere
pub back_again : act_of (Some gone) None (Some inbox) ≡ Follow
back_again = refl

-- deleted before, forgotten, and delivered anew
pub delivered_anew : act_of (Some gone) (Some inbox) None ≡ Create
delivered_anew = refl

-- ---- letters on a file whose flags change

-- seen and flagged: `P` and `a` stay, each letter at its place
pub changed_letters : letters_with (codes "PSa") 5 ≡ codes "FPSa"
unfolding letters_with
changed_letters = refl

-- seen is gone, and nothing else stood there
pub no_letter_left : letters_with (codes "ST") 0 ≡ []
unfolding letters_with
no_letter_left = refl

-- ---- folders

pub plain_folder : label_of (codes "work-2026") ≡ codes "work-2026"
plain_folder = refl

-- the Maildir itself is the inbox, and the program has a folder of its own
pub second_inbox : is_plain (codes "inbox") ≡ false
second_inbox = refl

pub own_folder : is_plain (codes "mailfold") ≡ false
own_folder = refl

-- a label has no capitals, and no dot
pub capitals : is_plain (codes "Work") ≡ false
capitals = refl

pub with_space_in_it : is_safe_folder (codes "Sent Items") ≡ true
with_space_in_it = refl

pub above_the_folder : is_safe_folder (codes "../x") ≡ false
above_the_folder = refl

pub below_the_folder : is_safe_folder (codes "a/b") ≡ false
below_the_folder = refl

pub into_the_own_folder : is_safe_folder (codes "mailfold") ≡ false
into_the_own_folder = refl

-- what was told of another folder counts for nothing
pub told_of_another : folder_name (codes "work") (Some (codes "play")) ≡ codes "work"
told_of_another = refl

-- ---- lines

-- the first line with the key counts
pub first_name : told_by name_key (codes "x y" ++ 10 ∷ codes "name a" ++ 10 ∷ codes "name b" ++ 10 ∷ []) ≡ Some (codes "a")
first_name = refl

-- a line that doesn't end is none
pub no_line : told_by name_key (codes "name a") ≡ None
no_line = refl

pub other_label : told_by (folder_key (codes "x")) (codes "folder y Y" ++ 10 ∷ codes "folder x X" ++ 10 ∷ []) ≡ Some (codes "X")
other_label = refl

-- the name that is told last is the first line
pub told_anew : with_name (codes "b") (codes "name a" ++ 10 ∷ []) ≡ codes "name b" ++ 10 ∷ codes "name a" ++ 10 ∷ []
told_anew = refl
