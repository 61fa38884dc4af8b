-- what is done for one mail
use Rattle.std.specs.Prelude.{Bool, true, false, not, ◌&&◌, ◌||◌, if◌then◌else◌, nat_lt, length, List, [], ◌∷◌, Option, Some, None}
use Rattle.mr_version.specs.Name.{Name}
use Rattle.mr_mail.specs.declared.label.TheConstants.{MAX_LABELS}
use Rattle.mr_joins.specs.View.{ViewParts, view_eq, is_nowhere}
use Rattle.mr_joins.specs.Edited as edits
use Rattle.mr_decide.specs.Changing.{wanted, keeps_folders}
use Rattle.mr_decide.specs.Held as held
use Rattle.mr_decide.specs.declared.held.HeldItem.{HeldItem}
use Rattle.mr_decide.specs.declared.deciding.Together.{Together}
use Rattle.mr_decide.specs.declared.mail_act.Seen.{Seen}
use Rattle.mr_decide.specs.declared.mail_act.Files.{Files}
use Rattle.mr_decide.specs.declared.mail_act.Files.TheVariants as files
use Rattle.mr_decide.specs.declared.mail_act.TooMuch.TheVariants as too_much
use Rattle.mr_decide.specs.declared.mail_act.MailAct.{MailAct}
use Rattle.mr_decide.specs.declared.mail_act.MailAct.TheVariants as act

-- a mail that stands in no folder has no file
abbrev pub standing : Option ViewParts → Option ViewParts
standing None = None
standing (Some view) = if is_nowhere view then None else Some view

-- whether it was left so
abbrev pub is_left : Option ViewParts → ViewParts → Bool
is_left None view = false
is_left (Some left) view = view_eq left view

-- what becomes of the files of a mail that is shown so, where files are seen so: what has no file here can't be shown
abbrev pub files_to : ViewParts → Option ViewParts → Bool → Files
files_to shown None has_file = if is_nowhere shown then files.Stay else (if has_file then files.Follow shown else files.Stay)
files_to shown (Some view) has_file = if view_eq view shown then files.Stay else (if is_nowhere shown then files.Remove else (if has_file then files.Follow shown else files.Stay))

-- nothing is told, and files follow
abbrev pub follow : Files → MailAct
follow files.Stay = act.Nothing
follow (files.Follow view) = act.Files (files.Follow view)
follow files.Remove = act.Files files.Remove

-- A mail that no user changed, or only to what is shown: where it is due and its file is here its heads are joined, and files follow.
abbrev pub unchanged : Together → Option ViewParts → Seen → MailAct
unchanged mail view seen = if mail.is_due && seen.has_file then act.Join mail.value (files_to mail.shown view seen.has_file) else follow (files_to mail.shown view seen.has_file)

-- A change of the user: the edit to what he wants, and files follow that. It is refused where that is more folders than a message may have labels, and then where a count can't rise.
abbrev pub changed : Together → ViewParts → ViewParts → MailAct
changed mail view wanted =
    if nat_lt MAX_LABELS (length wanted.labels) then act.Refuse too_much.Folders
    else (if not (edits.has_room mail.value) then act.Refuse too_much.Toggles
    else act.Change (edits.edited mail.value mail.first wanted.labels wanted.flags) (files_to wanted (Some view) true))

-- No file is seen: it was removed here if it is shown as it was left; that counts where its file is here, and two listings say so.
abbrev pub act_on_unseen : Together → Option ViewParts → Seen → MailAct
act_on_unseen mail left seen =
    if is_nowhere mail.shown || not (is_left left mail.shown) then unchanged mail None seen
    else (if not seen.has_file then act.Nothing
    else (if not seen.is_certain then act.Wait mail.is_due
    else act.Change (edits.deleted mail.value) files.Stay))

-- A file is seen: what the user changed is told, unless it takes the mail out of a folder and that isn't certain.
abbrev pub act_on_seen : Together → Option ViewParts → Seen → ViewParts → MailAct
act_on_seen mail left seen view =
    if view_eq view mail.shown || is_left left view then unchanged mail (Some view) seen
    else (if view_eq (wanted mail.shown left view) mail.shown then unchanged mail (Some view) seen
    else (if not seen.is_certain && not (keeps_folders (wanted mail.shown left view) mail.shown) then act.Wait (mail.is_due || not (is_left left mail.shown))
    else changed mail view (wanted mail.shown left view)))

abbrev pub act_by : Together → Option ViewParts → Seen → Option ViewParts → MailAct
act_by mail left seen None = act_on_unseen mail left seen
act_by mail left seen (Some view) = act_on_seen mail left seen view

-- what is held of a mail, taken together
abbrev pub together_of : List HeldItem → Name → Together
together_of items first = record { value = held.together items; shown = held.shown items; is_due = held.is_one_due items (held.shown items); first = first }

abbrev pub act_on_held : List HeldItem → Name → Option ViewParts → Seen → MailAct
act_on_held items first left seen = act_by (together_of items first) left seen (standing seen.view)

-- a mail that isn't held: what is seen is new, unless it was left just so, or is the program's own
abbrev pub act_on_unheld_seen : Option ViewParts → Seen → Option ViewParts → MailAct
act_on_unheld_seen left seen None = act.Nothing
act_on_unheld_seen left seen (Some view) = if seen.is_own || is_left left view then act.Files files.Remove else act.Create view

abbrev pub act_on_unheld : Option ViewParts → Seen → MailAct
act_on_unheld left seen = act_on_unheld_seen left seen (standing seen.view)

-- what is done for a mail that was left so, is seen so, and of which these items are held
abbrev pub act_of : List HeldItem → Option ViewParts → Seen → MailAct
act_of [] left seen = act_on_unheld left seen
act_of (first ∷ items) left seen = act_on_held (first ∷ items) first.item left seen
