-- worked rows: what the definitions give for small values
use Rattle.std.specs.Prelude.{◌≡◌, ℕ, Bool, true, false, List, [], ◌∷◌, Option, Some, None, codes, refl}
use Rattle.mr_version.specs.Name.{Name}
use Rattle.mr_mail.specs.declared.flags.Flag.TheVariants.{Flagged}
use Rattle.mr_joins.specs.declared.element.Element.{Element}
use Rattle.mr_joins.specs.declared.element.Element.TheVariants as element
use Rattle.mr_joins.specs.declared.mark.Mark.{Mark}
use Rattle.mr_joins.specs.View.{ViewParts}
use Rattle.mr_joins.specs.Shown.{shown_view}
use Rattle.mr_decide.specs.Changing.{wanted}
use Rattle.mr_decide.specs.Deciding.{act_by, act_on_unheld}
use Rattle.mr_decide.specs.declared.deciding.Together.{Together}
use Rattle.mr_decide.specs.declared.mail_act.Seen.{Seen}
use Rattle.mr_decide.specs.declared.mail_act.Files.TheVariants as files
use Rattle.mr_decide.specs.declared.mail_act.MailAct.TheVariants as act

-- the delivery of the mail
abbrev x : Name
x = record { author = 1; counter = 1 }

-- a mark of an element: so often raised, and so often as the mail was deleted
abbrev m : Element → ℕ → ℕ → Mark
m e raised gone = record { item = x; element = e; count = record { raised = raised; gone = gone } }

abbrev inbox : Element
inbox = element.Folder (codes "inbox")

abbrev play : Element
play = element.Folder (codes "play")

abbrev flagged : Element
flagged = element.Flag Flagged

-- a view of these folders and flags: flagged is 4
abbrev view : List (List ℕ) → ℕ → ViewParts
view labels flags = record { labels = labels; flags = flags }

abbrev in_inbox : ViewParts
in_inbox = view (codes "inbox" ∷ []) 0

abbrev in_both : ViewParts
in_both = view (codes "inbox" ∷ codes "play" ∷ []) 0

-- a mail whose heads say this together, and whether one of its items is due
abbrev mail : List Mark → Bool → Together
mail value due = record { value = value; shown = shown_view value; is_due = due; first = x }

-- seen so: certainly or not, with its file or not
abbrev seen : Option ViewParts → Bool → Bool → Seen
seen view certain file = record { view = view; is_certain = certain; has_file = file; is_own = false }

-- ---- the user changed it

pub flagged_here : act_by (mail (m inbox 1 0 ∷ []) false) (Some in_inbox) (seen None false true) (Some (view (codes "inbox" ∷ []) 4)) ≡ act.Change (m flagged 1 0 ∷ m inbox 1 0 ∷ []) files.Stay
flagged_here = refl

-- flagged here, and moved elsewhere: the flag is told, and the file follows
pub flagged_and_moved : act_by (mail (m inbox 2 0 ∷ m play 1 0 ∷ []) false) (Some in_inbox) (seen None false true) (Some (view (codes "inbox" ∷ []) 4))
    ≡ act.Change (m flagged 1 0 ∷ m inbox 2 0 ∷ m play 1 0 ∷ []) (files.Follow (view (codes "play" ∷ []) 4))
flagged_and_moved = refl

-- flagged here, and deleted elsewhere: it is put back as it is seen
pub flagged_and_deleted : act_by (mail (m inbox 1 1 ∷ []) false) (Some in_inbox) (seen None false true) (Some (view (codes "inbox" ∷ []) 4)) ≡ act.Change (m flagged 1 0 ∷ m inbox 3 1 ∷ []) files.Stay
flagged_and_deleted = refl

-- each side takes it from another folder: it comes to the inbox
pub both_taken : wanted in_inbox (Some in_both) (view (codes "play" ∷ []) 0) ≡ in_inbox
both_taken = refl

-- taken from a folder: told where two listings say so
pub taken : act_by (mail (m inbox 1 0 ∷ m play 1 0 ∷ []) false) (Some in_both) (seen None true true) (Some in_inbox) ≡ act.Change (m inbox 1 0 ∷ m play 2 0 ∷ []) files.Stay
taken = refl

pub taken_perhaps : act_by (mail (m inbox 1 0 ∷ m play 1 0 ∷ []) false) (Some in_both) (seen None false true) (Some in_inbox) ≡ act.Wait false
taken_perhaps = refl

-- deleted: told where two listings say so, of a mail whose file is here, and that is shown as it was left
pub deleted : act_by (mail (m inbox 1 0 ∷ []) false) (Some in_inbox) (seen None true true) None ≡ act.Change (m inbox 1 1 ∷ []) files.Stay
deleted = refl

pub deleted_perhaps : act_by (mail (m inbox 1 0 ∷ []) true) (Some in_inbox) (seen None false true) None ≡ act.Wait true
deleted_perhaps = refl

pub without_file : act_by (mail (m inbox 1 0 ∷ []) true) (Some in_inbox) (seen None true false) None ≡ act.Nothing
without_file = refl

pub deleted_and_flagged : act_by (mail (m flagged 1 0 ∷ m inbox 1 0 ∷ []) false) (Some in_inbox) (seen None true true) None ≡ act.Files (files.Follow (view (codes "inbox" ∷ []) 4))
deleted_and_flagged = refl

-- ---- nobody changed it here

pub moved_elsewhere : act_by (mail (m inbox 2 0 ∷ m play 1 0 ∷ []) false) (Some in_inbox) (seen None true true) (Some in_inbox) ≡ act.Files (files.Follow (view (codes "play" ∷ []) 0))
moved_elsewhere = refl

pub deleted_elsewhere : act_by (mail (m inbox 1 1 ∷ []) false) (Some in_inbox) (seen None true true) (Some in_inbox) ≡ act.Files files.Remove
deleted_elsewhere = refl

-- heads that don't agree are joined, where the file is here
pub joined : act_by (mail (m flagged 1 0 ∷ m inbox 1 0 ∷ []) true) (Some in_inbox) (seen None true true) (Some in_inbox)
    ≡ act.Join (m flagged 1 0 ∷ m inbox 1 0 ∷ []) (files.Follow (view (codes "inbox" ∷ []) 4))
joined = refl

pub not_joined : act_by (mail (m flagged 1 0 ∷ m inbox 1 0 ∷ []) true) None (seen None true false) None ≡ act.Nothing
not_joined = refl

-- ---- it isn't held

pub new : act_on_unheld None (seen (Some in_inbox) true true) ≡ act.Create in_inbox
new = refl

pub left_the_filter : act_on_unheld (Some in_inbox) (seen (Some in_inbox) true true) ≡ act.Files files.Remove
left_the_filter = refl

-- what the user did with it since is told, and its file stays
pub flagged_as_it_left : act_on_unheld (Some in_inbox) (seen (Some (view (codes "inbox" ∷ []) 4)) true true) ≡ act.Create (view (codes "inbox" ∷ []) 4)
flagged_as_it_left = refl

pub put_back_elsewhere : act_on_unheld (Some in_inbox) (seen (Some (view (codes "play" ∷ []) 0)) true true) ≡ act.Create (view (codes "play" ∷ []) 0)
put_back_elsewhere = refl
