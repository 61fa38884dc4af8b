-- what is told of a mail, and when
use Rattle.std.specs.Prelude.{◌≡◌, ◌⊎◌, ℕ, Bool, true, false, not, ◌||◌, List, Option, Some, None}
use Rattle.mr_mail.specs.Label.{has_label}
use Rattle.mr_joins.specs.declared.mark.Mark.{Mark}
use Rattle.mr_joins.specs.View.{ViewParts, view_eq, is_nowhere}
use Rattle.mr_joins.specs.Shown.{shown_view}
use Rattle.mr_joins.specs.Edited.{deleted}
use Rattle.mr_decide.specs.Changing.{over, wanted, keeps_folders}
use Rattle.mr_decide.specs.Held.{together, shown, is_one_due}
use Rattle.mr_decide.specs.Deciding.{standing, is_left}
use Rattle.mr_decide.specs.declared.held.HeldItem.{HeldItem}
use Rattle.mr_decide.specs.declared.mail_act.Seen.{Seen}
use Rattle.mr_decide.specs.declared.mail_act.MailAct.{MailAct}
use Rattle.mr_decide.specs.declared.mail_act.MailAct.TheVariants as act

-- what holds of the value that is told, if heads are joined
abbrev pub IfJoin : MailAct → (List Mark → Type 0) → Type 0
IfJoin act.Nothing P = Unit {0}
IfJoin (act.Wait news) P = Unit {0}
IfJoin (act.Create view) P = Unit {0}
IfJoin (act.Change value files) P = Unit {0}
IfJoin (act.Join value files) P = P value
IfJoin (act.Refuse too_much) P = Unit {0}
IfJoin (act.Files files) P = Unit {0}

-- what holds of the value that is told, if it is a change of the user
abbrev pub IfChange : MailAct → (List Mark → Type 0) → Type 0
IfChange act.Nothing P = Unit {0}
IfChange (act.Wait news) P = Unit {0}
IfChange (act.Create view) P = Unit {0}
IfChange (act.Change value files) P = P value
IfChange (act.Join value files) P = Unit {0}
IfChange (act.Refuse too_much) P = Unit {0}
IfChange (act.Files files) P = Unit {0}

-- what holds if a change waits, of whether there is news
abbrev pub IfWait : MailAct → (Bool → Type 0) → Type 0
IfWait act.Nothing P = Unit {0}
IfWait (act.Wait news) P = P news
IfWait (act.Create view) P = Unit {0}
IfWait (act.Change value files) P = Unit {0}
IfWait (act.Join value files) P = Unit {0}
IfWait (act.Refuse too_much) P = Unit {0}
IfWait (act.Files files) P = Unit {0}

-- what holds of the view in which a mail is new
abbrev pub IfCreate : MailAct → (ViewParts → Type 0) → Type 0
IfCreate act.Nothing P = Unit {0}
IfCreate (act.Wait news) P = Unit {0}
IfCreate (act.Create view) P = P view
IfCreate (act.Change value files) P = Unit {0}
IfCreate (act.Join value files) P = Unit {0}
IfCreate (act.Refuse too_much) P = Unit {0}
IfCreate (act.Files files) P = Unit {0}

-- a change is told, waits, or is refused
abbrev pub IsHeeded : MailAct → Type 0
IsHeeded act.Nothing = ⊥
IsHeeded (act.Wait news) = Unit {0}
IsHeeded (act.Create view) = ⊥
IsHeeded (act.Change value files) = Unit {0}
IsHeeded (act.Join value files) = ⊥
IsHeeded (act.Refuse too_much) = Unit {0}
IsHeeded (act.Files files) = ⊥

-- Heads are joined only where an item is due and the mail's file is here, and to what they say together.
pub record IsJoin (items : List HeldItem) (seen : Seen) (value : List Mark) : Type 0 where
  pub value_is : value ≡ together items
  pub due : is_one_due items (shown items) ≡ true
  pub file : seen.has_file ≡ true

-- It was deleted here: its file is here, two listings lack it, and it is shown as it was left, in some folder.
pub record IsDeletion (items : List HeldItem) (left : Option ViewParts) (seen : Seen) (value : List Mark) : Type 0 where
  pub value_is : value ≡ deleted (together items)
  pub unseen : standing seen.view ≡ None
  pub file : seen.has_file ≡ true
  pub certain : seen.is_certain ≡ true
  pub as_left : is_left left (shown items) ≡ true
  pub stood : is_nowhere (shown items) ≡ false

-- It was changed here: what is told shows what the user changed. It takes the mail out of just such folders in which it was left and isn't seen, and out of none
-- unless two listings say so.
pub record IsEdit (items : List HeldItem) (left : Option ViewParts) (seen : Seen) (view : ViewParts) (value : List Mark) : Type 0 where
  pub seen_so : standing seen.view ≡ Some view
  pub otherwise : is_left left view ≡ false
  pub shows : shown_view value ≡ wanted (shown items) left view
  pub taken : (label : List ℕ) → has_label (shown items).labels label ≡ true → has_label (shown_view value).labels label ≡ false → (has_label (over left).labels label ≡ true) × (has_label view.labels label ≡ false)
  pub folders : seen.is_certain ≡ false → keeps_folders (wanted (shown items) left view) (shown items) ≡ true

-- a change of the user that is told
abbrev pub IsChange : List HeldItem → Option ViewParts → Seen → List Mark → Type 0
IsChange items left seen value = IsDeletion items left seen value ⊎ ((view : ViewParts) × IsEdit items left seen view value)

-- there is news of the mail: it isn't shown as it was left, or an item is due
abbrev pub has_news : List HeldItem → Option ViewParts → Bool
has_news items left = is_one_due items (shown items) || not (is_left left (shown items))

-- the user changed a mail that is held: he sees it otherwise than it was left and than it is shown
pub record WasChanged (items : List HeldItem) (left : Option ViewParts) (seen : Seen) (view : ViewParts) : Type 0 where
  pub seen_so : standing seen.view ≡ Some view
  pub otherwise : is_left left view ≡ false
  pub not_shown : view_eq view (shown items) ≡ false
  pub wants : view_eq (wanted (shown items) left view) (shown items) ≡ false

-- the user removed it: no file is seen, and it is shown as it was left, in some folder
pub record WasRemoved (items : List HeldItem) (left : Option ViewParts) (seen : Seen) : Type 0 where
  pub unseen : standing seen.view ≡ None
  pub as_left : is_left left (shown items) ≡ true
  pub stood : is_nowhere (shown items) ≡ false
  pub file : seen.has_file ≡ true
