-- the message of a new mail
use Rattle.std.specs.Prelude.{◌≡◌, ◌⊎◌, ℕ, Bool, not, ◌&&◌, ◌/◌, min, if◌then◌else◌, List, [], fold}
use Rattle.mr_mail.specs.Label.{has_label, text_eq}
use Rattle.mr_mail.specs.Mail.{Mail, mail_with}
use Rattle.mr_maildir.specs.Reference.{ReferenceParts, reference_text}
use Rattle.mr_maildir.specs.Told.{with_folder}
use Rattle.mr_maildir.specs.View.{ViewParts}
use Rattle.mr_scan.specs.Folders.{FolderParts}
use Rattle.mr_fold.specs.declared.fault.SettleFault.{SettleFault}
use Rattle.mr_fold.specs.declared.fault.SettleFault.TheVariants.{OutOfMemory, TooManyFolders}

-- a message that stands for a file: no sender, no subject, the reference as its body
abbrev pub new_mail : ReferenceParts → ViewParts → ℕ → Mail
new_mail reference view day = mail_with [] [] (reference_text reference) (record { labels = view.labels; flags = view.flags; day = day })

-- why a mail's message isn't written: the mail stands in too many folders, or memory ran out
abbrev pub IsUnwritten : List ℕ → SettleFault → Type 0
IsUnwritten digest fault = (fault ≡ TooManyFolders digest) ⊎ (fault ≡ OutOfMemory)

-- the day of a time in nanoseconds, at most the last one
abbrev pub day_at : ℕ → ℕ
day_at time = min (time / 86400000000000) 65535

-- a mail stands in the folder, and the folder's name isn't its label
abbrev pub is_told : FolderParts → ViewParts → Bool
is_told folder view = has_label view.labels folder.label && not (text_eq folder.name folder.label)

-- the lines, with the folder's name told if need be
abbrev pub folder_line : List ℕ → FolderParts → ViewParts → List ℕ
folder_line lines folder view = if is_told folder view then with_folder folder.label folder.name lines else lines

-- the lines, with the names of these folders told
abbrev pub folder_lines : List ℕ → List FolderParts → ViewParts → List ℕ
folder_lines lines folders view = fold (λ text folder. folder_line text folder view) lines folders
