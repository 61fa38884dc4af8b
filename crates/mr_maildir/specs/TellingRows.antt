-- worked rows: which marks a record tells of a value
use Rattle.std.specs.Prelude.{◌≡◌, ℕ, true, false, List, [], ◌∷◌, codes, refl}
use Rattle.mr_version.specs.Name.{Name}
use Rattle.mr_mail.specs.declared.flags.Flag.TheVariants.{Seen, Deleted}
use Rattle.mr_joins.specs.declared.element.Element.{Element}
use Rattle.mr_joins.specs.declared.element.Element.TheVariants as element
use Rattle.mr_joins.specs.declared.mark.Mark.{Mark}
use Rattle.mr_maildir.specs.Telling.{is_shown_by, told_marks, uncounted}

-- the record's own item, and another one of the same mail
abbrev own : Name
own = record { author = 3; counter = 17 }

abbrev other : Name
other = record { author = 0; counter = 2 }

-- how often an element of an item was toggled, and how often as the mail was deleted
abbrev mark : Name → Element → ℕ → ℕ → Mark
mark item e raised gone = record { item = item; element = e; count = record { raised = raised; gone = gone } }

abbrev inbox : Element
inbox = element.Folder (codes "inbox")

abbrev play : Element
play = element.Folder (codes "play")

-- a new mail's are none, read as it came or not
pub told_of_new : told_marks own (mark own (element.Flag Seen) 1 0 ∷ mark own inbox 1 0 ∷ []) (codes "inbox" ∷ []) 1 ≡ []
told_of_new = refl

-- read later, it has the value of a mail that came read: that is told by its flags alone
pub told_of_moved : told_marks own (mark own inbox 2 0 ∷ mark own play 1 0 ∷ []) (codes "play" ∷ []) 0 ≡ mark own inbox 2 0 ∷ mark own play 1 0 ∷ []
told_of_moved = refl

-- of two deliveries the own one comes first, though its item is the greater
pub told_of_two : told_marks own (mark other inbox 1 0 ∷ mark own inbox 2 0 ∷ mark own play 1 0 ∷ []) (codes "inbox" ∷ codes "play" ∷ []) 0
    ≡ mark own inbox 2 0 ∷ mark own play 1 0 ∷ mark other inbox 1 0 ∷ []
told_of_two = refl

-- a deletion that tells no marks says nothing, so that it raises nothing; its message has no label, and the flag
pub deletion_before : uncounted own [] 16 ≡ []
deletion_before = refl

pub shows_deletion : is_shown_by [] [] 16 ≡ true
shows_deletion = refl

-- marked as deleted, and in a folder still: no deletion
pub marked_before : uncounted own (codes "inbox" ∷ []) 16 ≡ mark own (element.Flag Deleted) 1 0 ∷ mark own inbox 1 0 ∷ []
marked_before = refl

-- a moved mail doesn't show the folder that it left
pub left_folder : is_shown_by (mark own inbox 2 0 ∷ mark own play 1 0 ∷ []) (codes "inbox" ∷ []) 0 ≡ false
left_folder = refl

pub new_folder : is_shown_by (mark own inbox 2 0 ∷ mark own play 1 0 ∷ []) (codes "play" ∷ []) 0 ≡ true
new_folder = refl
