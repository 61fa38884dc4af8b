-- what is done for the mails of a folder
use Rattle.std.specs.Prelude.{◌≡◌, ◌<◌, ℕ, Bool, true, ◌&&◌, ◌||◌, if◌then◌else◌, IsSome, List, [], ◌∷◌, count_by, Option, Some, None}
use Rattle.std.specs.List.{list_all, flat_map}
use Rattle.mr_mail.specs.Label.{has_label}
use Rattle.mr_maildir.specs.View.{ViewParts}
use Rattle.mr_maildir.specs.Act.{act_of, standing}
use Rattle.mr_maildir.specs.declared.act.Act.{Act}
use Rattle.mr_maildir.specs.declared.act.Act.TheVariants.{Agree, Create, Edit, Delete, Follow, Remove}
use Rattle.mr_compare.specs.Tally.{deletes}
use Rattle.mr_compare.specs.declared.compare.Standing.{Standing}
use Rattle.mr_compare.specs.declared.compare.MailAct.{MailAct}
use Rattle.mr_compare.specs.declared.compare.CompareFault.{CompareFault}
use Rattle.mr_compare.specs.declared.compare.CompareFault.TheVariants.{OutOfMemory, TooManyDeletions}

-- whether a view has each folder of what is held
abbrev pub keeps_folders : Option ViewParts → ViewParts → Bool
keeps_folders None view = true
keeps_folders (Some held) view = list_all (λ label. has_label view.labels label) held.labels

-- an edit is told if it takes the mail out of no folder, or two quiet listings say so
abbrev pub believed_edit : Standing → ViewParts → Act
believed_edit mail view = if mail.is_certain || keeps_folders mail.held view then Edit view else Agree

-- Of an act stays what is believed: no mail goes that may have been out of sight, none is shown that has no file here, and the
-- program's own file is no new mail.
abbrev pub believed : Standing → Act → Act
believed mail Agree = Agree
believed mail Create = if mail.is_own then Remove else Create
believed mail (Edit view) = believed_edit mail view
believed mail Delete = if mail.has_file && mail.is_certain then Delete else Agree
believed mail Follow = if mail.has_file then Follow else Agree
believed mail Remove = Remove

-- what is done for a mail
abbrev pub act_for : Standing → Act
act_for mail = believed mail (act_of mail.left mail.seen mail.held)

-- it was removed here: its file is here, two quiet listings lack it, and it is held as it was left, which had a file
pub record IsDeletion (mail : Standing) : Type 0 where
  pub file : mail.has_file ≡ true
  pub certain : mail.is_certain ≡ true
  pub unseen : standing mail.seen ≡ None
  pub as_left : mail.held ≡ mail.left
  pub had_file : IsSome (standing mail.held)

-- where a merge is due of a mail that is held, an edit to the view that is held, and else the act
abbrev pub merge_or : Bool → Option ViewParts → Act → Act
merge_or due None act = act
merge_or due (Some held) act = if due then Edit held else act

-- what tells nothing gives way to a merge that is due; each other act stays
abbrev pub merged_act : Standing → Act → Act
merged_act mail Agree = merge_or mail.is_merge_due mail.held Agree
merged_act mail Create = Create
merged_act mail (Edit view) = Edit view
merged_act mail Delete = Delete
merged_act mail Follow = merge_or mail.is_merge_due mail.held Follow
merged_act mail Remove = Remove

-- what is done for a mail, its heads being merged where that is due
abbrev pub told_for : Standing → Act
told_for mail = merged_act mail (act_for mail)

-- what is done for it, if anything is
abbrev pub if_any : List ℕ → Act → List MailAct
if_any digest Agree = []
if_any digest Create = record { digest = digest; act = Create } ∷ []
if_any digest (Edit view) = record { digest = digest; act = Edit view } ∷ []
if_any digest Delete = record { digest = digest; act = Delete } ∷ []
if_any digest Follow = record { digest = digest; act = Follow } ∷ []
if_any digest Remove = record { digest = digest; act = Remove } ∷ []

abbrev pub due : Standing → List MailAct
due mail = if_any mail.digest (told_for mail)

-- what is done for these mails, in their order
abbrev pub due_acts : List Standing → List MailAct
due_acts mails = flat_map due mails

-- what is done for these mails, in their order, where nothing is merged
abbrev pub believed_acts : List Standing → List MailAct
believed_acts mails = flat_map (λ mail. if_any mail.digest (act_for mail)) mails

-- ---- deletions

-- how many of these mails are deleted
abbrev pub deletions : List Standing → ℕ
deletions mails = count_by (λ (mail : Standing). deletes (act_for mail)) mails

-- why nothing is done: more mails than so many would be deleted
abbrev pub IsCompareFault : List Standing → ℕ → CompareFault → Type 0
IsCompareFault mails limit OutOfMemory = Unit {0}
IsCompareFault mails limit (TooManyDeletions count most) = (count ≡ deletions mails) × (most ≡ limit) × (limit < count)

-- the number by which a host knows a fault
abbrev pub fault_number : CompareFault → ℕ
fault_number OutOfMemory = 0
fault_number (TooManyDeletions count most) = 1
