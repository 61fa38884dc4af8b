-- the words of a message
use Rattle.std.specs.Prelude.{◌≡◌, ℕ, nat_eq, if◌then◌else◌, List, [], ◌∷◌, drop, Option, None, Ok, Err, IsSomeAnd, codes}
use Rattle.std.specs.List.{starts_with}
use Rattle.mr_mail.specs.Admits.{first_fault}
use Rattle.mr_mail.specs.Day.{Spells}
use Rattle.mr_mail.specs.Label.{AreLabelsOf}
use Rattle.mr_mail.specs.Mail.{Mail}
use Rattle.mr_mail.specs.declared.fault.MessageFault.{MessageFault}
use Rattle.mr_command.specs.declared.fault.LineFault.TheVariants.{WrongWords, BadDate, BadFlags, OutOfMemory}
use Rattle.mr_command.specs.Fault.{fault_of_message}
use Rattle.mr_command.specs.List.{pieces_of, NamesFlags}
use Rattle.mr_command.specs.Reading.{Reading, gives, fails, names, ◌andthen◌}
use Rattle.mr_command.specs.Words.{unwords}

-- the words of a message as they stand
pub record Parts : Type 0 where
  pub labels : List ℕ
  pub flags : List ℕ
  pub date : List ℕ
  pub from : List ℕ
  pub subject_and_body : List ℕ

-- `LABELS FLAGS DATE FROM SUBJECT`, of which SUBJECT is the rest, and may be missing
abbrev pub takes_parts : List (List ℕ) → Reading Parts
takes_parts (labels ∷ flags ∷ date ∷ from ∷ subject_and_body) =
    gives (record { labels = labels; flags = flags; date = date; from = from; subject_and_body = unwords subject_and_body })
takes_parts args = fails WrongWords

-- what stands between a subject and a body
abbrev pub mark : List ℕ
mark = codes " // "

-- what stands before the first mark, or all
abbrev pub subject_of : List ℕ → List ℕ
subject_of [] = []
subject_of (b ∷ bs) = if starts_with nat_eq (b ∷ bs) mark then [] else b ∷ subject_of bs

-- what stands after the first mark, or nothing
abbrev pub body_of : List ℕ → List ℕ
body_of [] = []
body_of (b ∷ bs) = if starts_with nat_eq (b ∷ bs) mark then drop 4 (b ∷ bs) else body_of bs

-- why the parts, with this flag byte, make no message
abbrev pub parts_fault : Parts → ℕ → Option MessageFault
parts_fault p flags = first_fault p.from (subject_of p.subject_and_body) (body_of p.subject_and_body) (pieces_of 44 p.labels) flags

-- the message has these parts, this flag byte and this day
pub record IsMade (p : Parts) (flags day : ℕ) (mail : Mail) : Type 0 where
  pub no_fault : parts_fault p flags ≡ None
  pub from : mail.from ≡ p.from
  pub subject : mail.subject ≡ subject_of p.subject_and_body
  pub body : mail.body ≡ body_of p.subject_and_body
  pub labels : AreLabelsOf (pieces_of 44 p.labels) mail.labels
  pub flags_are : mail.flags ≡ flags
  pub day_is : mail.day ≡ day

-- the message that the parts make, or why they make none; memory is wanted only for parts that make one
abbrev pub makes : Parts → ℕ → ℕ → Reading Mail
makes p flags day (Ok mail) = IsMade p flags day mail
makes p flags day (Err OutOfMemory) = parts_fault p flags ≡ None
makes p flags day (Err fault) = IsSomeAnd (parts_fault p flags) (λ f. fault ≡ fault_of_message f)

-- the flags, the date, and then the message as a whole
abbrev pub reads_message : Parts → Reading Mail
reads_message p =
    names NamesFlags BadFlags p.flags andthen λ flags.
    names Spells BadDate p.date andthen λ day.
    makes p flags day
