-- worked rows: the lines of a mail's body, and what they tell
use Rattle.std.specs.Prelude.{◌≡◌, ℕ, true, false, List, [], ◌∷◌, ◌++◌, codes, Option, Some, None, refl, replicate}
use Rattle.std.specs.Fmt.{digits}
use Rattle.hex.specs.Hex.{encode_with}
use Rattle.mr_version.specs.Name.{Name}
use Rattle.mr_mail.specs.declared.flags.Flag.TheVariants.{Seen, Flagged}
use Rattle.mr_joins.specs.declared.element.Element.{Element}
use Rattle.mr_joins.specs.declared.element.Element.TheVariants as element
use Rattle.mr_joins.specs.declared.mark.Mark.{Mark}
use Rattle.mr_maildir.specs.Counts.{count_text, is_mark}
use Rattle.mr_maildir.specs.Lines.{LinesParts, folder_told, is_other_line, name_in, told_lines}
use Rattle.mr_maildir.specs.MailText.{mail_text}

-- the record's own item, and another one of the same mail
abbrev own : Name
own = record { author = 3; counter = 17 }

abbrev other : Name
other = record { author = 0; counter = 2 }

-- how often an element of an item was toggled, and how often as the mail was deleted
abbrev mark : Name → Element → ℕ → ℕ → Mark
mark item e raised gone = record { item = item; element = e; count = record { raised = raised; gone = gone } }

abbrev inbox : Element
inbox = element.Folder (codes "inbox")

abbrev play : Element
play = element.Folder (codes "play")

-- marks, and nothing else
abbrev marked : List Mark → LinesParts
marked marks = record { name = None; folders = []; marks = marks; others = [] }

-- a new mail tells nothing but its name: not a byte more than before
pub new_mail : told_lines own (record { name = Some (codes "1.2.host"); folders = []; marks = []; others = [] }) ≡ codes "name 1.2.host" ∷ []
new_mail = refl

pub new_body : mail_text own (record { digest = replicate 32 0; size = 7; told = marked [] })
    ≡ codes "mail 2" ++ 10 ∷ codes "sha256 0000000000000000000000000000000000000000000000000000000000000000" ++ 10 ∷ codes "size 7" ++ 10 ∷ []
unfolding digits encode_with
new_body = refl

-- moved out of the inbox
pub moved : told_lines own (marked (mark own inbox 2 0 ∷ mark own play 1 0 ∷ [])) ≡ codes "counts inbox 2 play 1" ∷ []
unfolding digits
moved = refl

-- read after it came: flags stand before folders
pub read : told_lines own (marked (mark own (element.Flag Seen) 1 0 ∷ mark own inbox 1 0 ∷ [])) ≡ codes "counts S 1 inbox 1" ∷ []
unfolding digits
read = refl

-- deleted: each count as far as the deletion knew it
pub deleted : told_lines own (marked (mark own (element.Flag Flagged) 2 2 ∷ mark own inbox 1 1 ∷ [])) ≡ codes "counts F 2/2 inbox 1/1" ∷ []
unfolding digits
deleted = refl

-- delivered twice, and moved as the own item
pub twice : told_lines own (marked (mark own inbox 2 0 ∷ mark own play 1 0 ∷ mark other inbox 1 0 ∷ [])) ≡ codes "counts inbox 2 play 1" ∷ codes "counts of 0.2 inbox 1" ∷ []
unfolding digits
twice = refl

-- the folder of the label `of`, once toggled: two words and no item
pub of_label : told_lines own (marked (mark own (element.Folder (codes "of")) 1 0 ∷ [])) ≡ codes "counts of 1" ∷ []
unfolding digits
of_label = refl

-- a folder whose label is a digest has its name told
pub named : told_lines own (record { name = None; folders = record { label = codes "f-0123456789abcdef0123456789abcd"; name = codes "Sent Items" } ∷ []; marks = []; others = [] })
    ≡ codes "folder f-0123456789abcdef0123456789abcd Sent Items" ∷ []
named = refl

pub cut_at_space : folder_told (codes "f-01 Sent Items") ≡ record { label = codes "f-01"; name = codes "Sent Items" }
cut_at_space = refl

-- a tag stands between flags and folders; it is kept as any word
pub tagged : told_lines own (marked (mark own (element.Flag Seen) 1 0 ∷ mark own (element.Other (codes "+to%20do")) 1 0 ∷ mark own inbox 1 0 ∷ [])) ≡ codes "counts S 1 +to%20do 1 inbox 1" ∷ []
unfolding digits
tagged = refl

-- what isn't known stands at the end
pub unknown : told_lines own (record { name = Some (codes "a"); folders = []; marks = mark own inbox 2 0 ∷ []; others = codes "colour red" ∷ [] })
    ≡ codes "name a" ∷ codes "counts inbox 2" ∷ codes "colour red" ∷ []
unfolding digits
unknown = refl

pub is_unknown : is_other_line (codes "colour red") ≡ true
is_unknown = refl

-- a name that may not be taken from others is not known; one that may is
pub bad_name : is_other_line (codes "name a/b") ≡ true
bad_name = refl

pub good_name : is_other_line (codes "name a") ≡ false
good_name = refl

-- a line of counts is known, whatever it tells
pub bad_counts : is_other_line (codes "counts inbox") ≡ false
bad_counts = refl

-- a count is 1 at least, and a deletion knew no more
pub never_toggled : is_mark (mark own inbox 0 0) ≡ false
never_toggled = refl

pub known_beyond : is_mark (mark own inbox 1 2) ≡ false
known_beyond = refl
