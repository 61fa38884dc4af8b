-- worked rows
use Rattle.std.specs.Prelude.{◌≡◌, ℕ, true, false, List, [], ◌∷◌, map, codes, Some, None, refl}
use Rattle.mr_maildir.specs.File.{FileParts}
use Rattle.mr_maildir.specs.View.{ViewParts}
use Rattle.mr_maildir.specs.declared.layout.Layout.TheVariants.{Dots, Plain}
use Rattle.mr_folder.specs.declared.path.Part.TheVariants.{Cur, New}
use Rattle.mr_scan.specs.Folders.{FolderParts, TableParts, folder_there, folders_there, paths_passed_over, folder_of, path_given, layout_of}
use Rattle.mr_scan.specs.inner.Found.{part_at}
use Rattle.mr_scan.specs.Seen.{seen_view}
use Rattle.mr_scan.specs.inner.Scan.{is_other_mail}
use Rattle.mr_scan.specs.inner.Spoiled.{is_spoiled, last_at, spoiled_of, whole_of}
use Rattle.mr_scan.specs.declared.inodes.StoreFile.{StoreFile}
use Rattle.mr_scan.specs.declared.scanned.Sight.TheVariants.{Adopted, Gone}

-- ---- folders

abbrev inbox : FolderParts
inbox = record { path = []; label = codes "inbox"; name = codes "inbox" }

abbrev work : FolderParts
work = record { path = codes ".work"; label = codes "work"; name = codes "work" }

-- the Maildir itself is the inbox in both layouts
pub maildir_itself : folder_there Plain [] ≡ Some inbox
maildir_itself = refl

-- a folder without a dot is none where names stand behind dots
pub three_paths : folders_there Dots ([] ∷ codes ".work" ∷ codes "work" ∷ []) ≡ inbox ∷ work ∷ []
three_paths = refl

-- so it is passed over
pub passed_over_work : paths_passed_over Dots ([] ∷ codes ".work" ∷ codes "work" ∷ []) ≡ codes "work" ∷ []
passed_over_work = refl

-- in their order, and whatever stands between them
pub passed_over_dots : paths_passed_over Plain (codes ".b" ∷ [] ∷ codes ".a" ∷ codes "work" ∷ codes "a.b" ∷ []) ≡ codes ".b" ∷ codes ".a" ∷ codes "a.b" ∷ []
passed_over_dots = refl

pub none_passed_over : paths_passed_over Plain ([] ∷ codes "work" ∷ []) ≡ []
none_passed_over = refl

pub of_work : folder_of (inbox ∷ work ∷ []) (codes "work") ≡ Some work
of_work = refl

-- a listing has `cur` and `new` of the first folder, then those of the second
pub new_of_first : part_at (inbox ∷ work ∷ []) 1 ≡ Some (inbox, New)
new_of_first = refl

pub cur_of_second : part_at (inbox ∷ work ∷ []) 2 ≡ Some (work, Cur)
cur_of_second = refl

pub behind_the_last : part_at (inbox ∷ work ∷ []) 4 ≡ None
behind_the_last = refl

abbrev table : TableParts
table = record { layout = Dots; folders = inbox ∷ work ∷ []; passed_over = [] }

-- a label's folder is where it stands; one that isn't there is made, whatever a peer told of it
pub path_of_work : path_given table (codes "work") (Some (codes "../x")) ≡ codes ".work"
path_of_work = refl

pub path_of_play : path_given table (codes "play") (Some (codes "../x")) ≡ codes ".play"
path_of_play = refl

-- ---- layouts

pub dots : layout_of ([] ∷ codes ".work" ∷ codes "play" ∷ []) ≡ Dots
dots = refl

pub alone : layout_of ([] ∷ []) ≡ Dots
alone = refl

pub plain : layout_of ([] ∷ codes "work" ∷ []) ≡ Plain
plain = refl

-- ---- how a mail is seen

abbrev seen_file : FileParts
seen_file = record { label = codes "work"; is_new = false; unique = codes "1.host"; info = codes ":2,S" }

abbrev lost_file : FileParts
lost_file = record { label = codes "inbox"; is_new = false; unique = codes "2.host"; info = codes ":2,F" }

abbrev left : ViewParts
left = record { labels = codes "inbox" ∷ codes "work" ∷ []; flags = 1 }

-- two files of a mail that was seen: one lost its S, and got an F
pub lost_and_got : seen_view (Some left) (seen_file ∷ lost_file ∷ []) ≡ record { labels = codes "inbox" ∷ codes "work" ∷ []; flags = 4 }
lost_and_got = refl

-- the same of a mail that was never left: both come
pub both_come : seen_view None (seen_file ∷ lost_file ∷ []) ≡ record { labels = codes "inbox" ∷ codes "work" ∷ []; flags = 5 }
both_come = refl

abbrev trashed_file : FileParts
trashed_file = record { label = codes "inbox"; is_new = false; unique = codes "2.host"; info = codes ":2,ST" }

-- one of two copies is marked for deletion: the mail isn't deleted
pub one_trashed : seen_view (Some left) (seen_file ∷ trashed_file ∷ []) ≡ record { labels = codes "inbox" ∷ codes "work" ∷ []; flags = 1 }
one_trashed = refl

-- both are
pub both_trashed : seen_view (Some left) (trashed_file ∷ trashed_file ∷ []) ≡ record { labels = codes "inbox" ∷ []; flags = 17 }
both_trashed = refl

-- two files in one folder
pub in_one_folder : seen_view (Some left) (seen_file ∷ seen_file ∷ []) ≡ record { labels = codes "work" ∷ []; flags = 1 }
in_one_folder = refl

-- ---- files that were edited in place

abbrev first : StoreFile
first = record { inode = 5; mail = record { digest = 1 ∷ []; size = 7 } }

-- of another size than the table tells
abbrev second : StoreFile
second = record { inode = 6; mail = record { digest = 2 ∷ []; size = 9 } }

-- a mail of which the table tells no size, and a second name of the second file
abbrev third : StoreFile
third = record { inode = 6; mail = record { digest = 3 ∷ []; size = 9 } }

abbrev told : List (List ℕ × ℕ)
told = (1 ∷ [], 7) ∷ (2 ∷ [], 8) ∷ []

pub spoiled_row : map (is_spoiled told) (first ∷ second ∷ third ∷ []) ≡ false ∷ true ∷ false ∷ []
spoiled_row = refl

pub spoiled_digests : spoiled_of told (first ∷ second ∷ third ∷ []) ≡ (2 ∷ []) ∷ []
spoiled_digests = refl

-- the inode of both names is what the whole one says
pub whole_inode : last_at 6 (whole_of told (first ∷ second ∷ third ∷ [])) ≡ Some (record { digest = 3 ∷ []; size = 9 })
whole_inode = refl

pub no_inode : last_at 7 (whole_of told (first ∷ second ∷ third ∷ [])) ≡ None
no_inode = refl

-- the last of two whole ones counts
pub last_inode : last_at 6 (second ∷ third ∷ first ∷ []) ≡ Some (record { digest = 3 ∷ []; size = 9 })
last_inode = refl

pub other_mail : map (λ sight. is_other_mail sight (1 ∷ [])) (Adopted (1 ∷ []) ∷ Adopted (2 ∷ []) ∷ Gone ∷ []) ≡ false ∷ true ∷ false ∷ []
other_mail = refl
