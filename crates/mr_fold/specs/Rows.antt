-- worked rows: what the definitions give for small values
use Rattle.std.specs.Prelude.{◌≡◌, ℕ, true, false, List, [], ◌∷◌, ◌++◌, map, codes, Some, None, Ok, Err, refl}
use Rattle.std.specs.Fmt.{decimal}
use Rattle.std.specs.declared.io.Error.{Error}
use Rattle.mr_version.specs.Name.{Name}
use Rattle.mr_itemset.specs.Normal.{Normal}
use Rattle.mr_itemset.specs.Sparing.{sparing_form}
use Rattle.mr_mail.specs.Mail.{Mail}
use Rattle.mr_maildir.specs.Reference.{ReferenceParts}
use Rattle.mr_maildir.specs.View.{ViewParts}
use Rattle.mr_maildir.specs.declared.act.Act.TheVariants as act
use Rattle.mr_maildir.specs.declared.layout.Layout.{Layout}
use Rattle.mr_maildir.specs.declared.layout.Layout.TheVariants.{Dots, Plain}
use Rattle.mr_kept.specs.declared.fault.KeptFault.TheVariants as kept
use Rattle.mr_kept.specs.declared.fault.ExplainedFault.TheVariants as explained
use Rattle.mr_scan.specs.Folders.{FolderParts}
use Rattle.mr_fold.specs.FoldFault.{explained_settle}
use Rattle.mr_fold.specs.declared.fault.SettleFault.TheVariants as settle
use Rattle.mr_fold.specs.declared.fold_fault.FoldFault.TheVariants as fold
use Rattle.mr_compare.specs.declared.sides.HeldMail.{HeldMail}
use Rattle.mr_fold.specs.Lacking.{has_digest}
use Rattle.mr_fold.specs.inner.Lacking.{is_digest, is_missing}
use Rattle.mr_fold.specs.Mark.{mark_text}
use Rattle.mr_fold.specs.Message.{day_at, folder_lines}
use Rattle.mr_fold.specs.inner.Resting.{folder_bytes}
use Rattle.mr_fold.specs.inner.Settings.{layout_told, settings_text}
use Rattle.mr_fold.specs.inner.Sizes.{newer_size}
use Rattle.mr_fold.specs.inner.Straying.{first_place, path_instead, place_of, strays}
use Rattle.mr_fold.specs.inner.Taking.{takes_away}
use Rattle.mr_replica.specs.Replay.{Admits}
use Rattle.mr_replica.specs.State.{State, new_state}
use Rattle.mr_replica.specs.declared.event.Event.TheVariants.{Create}
use Rattle.mr_fold.specs.State.{nothing_shown, shown_by, met_by}
use Rattle.mr_fold.specs.Telling.{TellsAct, TellsAll, edited_to, first_message}

-- before a note tells it, nothing is shown and nobody was met
pub no_note : shown_by [] ≡ nothing_shown
no_note = refl

pub nobody_met : met_by [] 3 ≡ None
nobody_met = refl

-- a note of another kind counts for nothing
pub other_kind : shown_by (record { kind = 9; bytes = [] } ∷ []) ≡ nothing_shown
other_kind = refl

-- of a new mail a Create is told, if the replica admits it
pub created : (s new : State Normal) (message : Mail) → Admits sparing_form s (Create message) new → TellsAct [] act.Create s (Create message ∷ []) new
created s new message admits = (message, (refl, admits))

-- of what agrees, of what follows and of what goes nothing is told
pub agreed : (s : State Normal) → TellsAct [] act.Agree s [] s
agreed s = (refl, refl)

pub followed : (s : State Normal) → TellsAct [] act.Follow s [] s
followed s = (refl, refl)

pub removed : (s : State Normal) → TellsAct [] act.Remove s [] s
removed s = (refl, refl)

-- nor of no mail
pub of_none : (s : State Normal) → TellsAll [] [] s [] s
of_none s = (refl, refl)

-- ---- settings

-- no settings tell no layout, and so do comments
pub no_settings : map layout_told ([] ∷ codes "# layout = dots" ∷ []) ≡ Ok None ∷ Ok None ∷ []
no_settings = refl

pub settings_read : (layout : Layout) → layout_told (settings_text layout) ≡ Ok (Some layout)
settings_read Dots = refl
settings_read Plain = refl

-- another line is refused, and so are both
pub bad_settings : map layout_told (codes "layout = dot" ∷ codes "layout=dots" ∷ (settings_text Dots ++ settings_text Plain) ∷ []) ≡ Err fold.BadSettings ∷ Err fold.BadSettings ∷ Err fold.BadSettings ∷ []
bad_settings = refl

-- ---- the mark

pub mark_row : (inode : ℕ) → mark_text (codes "c0ffee") inode ≡ codes "c0ffee " ++ decimal inode
mark_row inode = refl

-- ---- the note of rest

pub rest_row : folder_bytes (codes "ab") 258 0 ≡ 0 ∷ 0 ∷ 0 ∷ 0 ∷ 0 ∷ 0 ∷ 1 ∷ 2 ∷ 0 ∷ 0 ∷ 0 ∷ 0 ∷ 0 ∷ 0 ∷ 0 ∷ 0 ∷ 0 ∷ 0 ∷ 0 ∷ 0 ∷ 0 ∷ 0 ∷ 0 ∷ 2 ∷ codes "ab"
rest_row = refl

-- ---- faults

-- what the system said of the journal's device, and of the files
pub device_said : (said : Error) → explained_settle (settle.Kept kept.Failed) (Some said) None ≡ fold.Journal (explained.Device said)
device_said said = refl

pub files_said : (said : Error) → explained_settle settle.Files None (Some said) ≡ fold.System said
files_said said = refl

-- the mail that stands in too many folders is named
pub mail_named : (digest : List ℕ) → explained_settle (settle.TooManyFolders digest) None None ≡ fold.TooManyFolders (record { digest = digest })
mail_named digest = refl

pub nothing_said : explained_settle settle.Files None None ≡ fold.Files
nothing_said = refl

-- ---- messages

-- the day before the first midnight, the one behind it, and the last that there is
pub day_row : map day_at (86399999999999 ∷ 86400000000000 ∷ 18446744073709551615 ∷ []) ≡ 0 ∷ 1 ∷ 65535 ∷ []
day_row = refl

abbrev inbox_folder : FolderParts
inbox_folder = record { path = []; label = codes "inbox"; name = codes "inbox" }

abbrev archive : FolderParts
archive = record { path = codes ".Archive"; label = codes "f-1"; name = codes "Archive" }

abbrev in_both : ViewParts
in_both = record { labels = codes "f-1" ∷ codes "inbox" ∷ []; flags = 0 }

abbrev in_inbox : ViewParts
in_inbox = record { labels = codes "inbox" ∷ []; flags = 0 }

-- a folder whose label is another than its name is told, if the mail stands in it
pub folder_row : folder_lines (codes "x") (inbox_folder ∷ archive ∷ []) in_both ≡ codes "folder f-1 Archive" ++ 10 ∷ codes "x"
folder_row = refl

pub other_folder_row : folder_lines (codes "x") (inbox_folder ∷ archive ∷ []) in_inbox ≡ codes "x"
other_folder_row = refl

-- ---- edits

abbrev letter : Mail
letter = record { from = codes "ann"; subject = codes "hi"; body = codes "b"; labels = codes "f-1" ∷ []; flags = 1; day = 7 }

abbrev version : ℕ → Name
version counter = record { author = 1; counter = counter }

-- a replica that holds one version of one item
abbrev one_held : State Normal
one_held = record (new_state 1 [] 9 (record { all = []; listed = [] })) { heads = record { item = version 1; version = version 1; below = []; message = letter } ∷ [] }

-- an edit leaves all of a message but its labels and flags
pub edited_row : edited_to in_inbox letter ≡ record { from = codes "ann"; subject = codes "hi"; body = codes "b"; labels = codes "inbox" ∷ []; flags = 0; day = 7 }
edited_row = refl

-- the first of two versions counts, if it is held
pub first_row : map (first_message one_held) ((version 1 ∷ version 2 ∷ []) ∷ (version 2 ∷ version 1 ∷ []) ∷ [] ∷ []) ≡ Some letter ∷ None ∷ None ∷ []
first_row = refl

-- ---- what is taken away

-- a deletion takes away, and an edit out of a folder; one into a folder doesn't
pub taken_row : takes_away act.Delete None ∷ takes_away (act.Edit in_inbox) (Some in_both) ∷ takes_away (act.Edit in_both) (Some in_inbox) ∷ takes_away act.Remove None ∷ [] ≡ true ∷ true ∷ false ∷ false ∷ []
taken_row = refl

-- ---- mails in folders that are passed over

-- a mail counts that an act deletes and the table tells of
pub place_row : map (place_of ((codes "a", 3) ∷ (codes "b", 4) ∷ [])) (record { digest = codes "b"; act = act.Delete } ∷ record { digest = codes "b"; act = act.Follow } ∷ record { digest = codes "c"; act = act.Delete } ∷ []) ≡ Some 4 ∷ None ∷ None ∷ []
place_row = refl

-- two of three lie in the first one's folder
pub first_place_row : map first_place ((7 ∷ 2 ∷ 7 ∷ []) ∷ [] ∷ []) ≡ Some (7, 2) ∷ None ∷ []
first_place_row = refl

-- the second of two folders has two mails that would be deleted
pub strays_row : strays (codes "old" ∷ codes "work" ∷ []) ((codes "a", 1) ∷ (codes "b", 1) ∷ (codes "c", 0) ∷ []) (record { digest = codes "a"; act = act.Delete } ∷ record { digest = codes "b"; act = act.Delete } ∷ record { digest = codes "c"; act = act.Agree } ∷ []) ≡ Some (codes "work", 2)
strays_row = refl

pub no_strays_row : strays (codes "old" ∷ []) [] (record { digest = codes "a"; act = act.Delete } ∷ []) ≡ None
no_strays_row = refl

-- what has no dot gets one, and the other way round; what neither layout has gets nothing
pub instead_row : map (path_instead Dots) (codes "work" ∷ codes ".a/b" ∷ []) ≡ Some (codes ".work") ∷ None ∷ []
instead_row = refl

pub plain_instead_row : map (path_instead Plain) (codes ".work" ∷ codes "a.b" ∷ []) ≡ Some (codes "work") ∷ None ∷ []
plain_instead_row = refl

-- ---- files that aren't here

pub digest_row : map (has_digest (codes "ab" ∷ codes "c" ∷ [])) (codes "c" ∷ codes "a" ∷ []) ≡ true ∷ false ∷ []
digest_row = refl

pub told_digest_row : map (is_digest (codes "ab")) (None ∷ Some (codes "ab") ∷ Some (codes "b") ∷ []) ≡ false ∷ true ∷ false ∷ []
told_digest_row = refl

-- the store has the first one's file, the second one lacks its own, and the third one is gone
abbrev held_of : List ℕ → ViewParts → HeldMail
held_of digest view = record { digest = digest; first = record { author = 0; counter = 1 }; view = view; is_merge_due = false }

abbrev gone : ViewParts
gone = record { labels = []; flags = 16 }

pub missing_row : map (is_missing (record { digest = codes "a"; size = 7 } ∷ []) (held_of (codes "a") in_inbox ∷ held_of (codes "b") in_inbox ∷ held_of (codes "c") gone ∷ [])) (codes "a" ∷ codes "b" ∷ codes "c" ∷ codes "d" ∷ []) ≡ false ∷ true ∷ false ∷ false ∷ []
missing_row = refl

-- ---- sizes

abbrev seven : ReferenceParts
seven = record { digest = codes "a"; size = 7; lines = [] }

-- what was told last of the digest's file counts
pub newer_row : newer_size (codes "a") (Some 5) (Some seven) ∷ newer_size (codes "b") (Some 5) (Some seven) ∷ newer_size (codes "a") (Some 5) None ∷ [] ≡ Some 7 ∷ Some 5 ∷ Some 5 ∷ []
newer_row = refl
