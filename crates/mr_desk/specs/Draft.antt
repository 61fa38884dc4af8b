-- what a draft's bytes say
use Rattle.std.specs.Prelude.{◌≡◌, ◌==◌, ◌&&◌, not, ℕ, List, [], ◌∷◌, Option, Some, if◌then◌else◌}
use Rattle.std.specs.Option.{option_map}
use Rattle.std.specs.List.{slice_split}
use Rattle.std.specs.Str.{is_utf8}
use Rattle.mr_mail.specs.Mail.{Mail}
use Rattle.mr_mail.specs.Label.{AreLabelsOf}
use Rattle.mr_mail.specs.Admits.{first_fault}
use Rattle.mr_desk.specs.declared.call.Draft.{Draft}
use Rattle.mr_desk.specs.declared.fault.Fault.{Fault}
use Rattle.mr_desk.specs.declared.fault.Fault.TheVariants.{NotText}
use Rattle.mr_desk.specs.Fault.{of_message}

-- the parts of a text between its commas
abbrev pub parts_of : List ℕ → List (List ℕ)
parts_of text = slice_split (λ b. b == 44) text

-- the labels of a text: its parts between commas, and none of an empty one
abbrev pub labels_of : List ℕ → List (List ℕ)
labels_of [] = []
labels_of (b ∷ bs) = parts_of (b ∷ bs)

-- why the draft is no message: first its texts, then its parts
abbrev pub draft_fault : Draft → Option Fault
draft_fault d =
    if not (is_utf8 d.from.now && (is_utf8 d.subject.now && is_utf8 d.labels.now)) then Some NotText
    else option_map of_message (first_fault d.from.now d.subject.now d.body.now (labels_of d.labels.now) d.flags)

-- the message that the draft is
pub record IsMessageOf (d : Draft) (mail : Mail) : Type 0 where
  pub from : mail.from ≡ d.from.now
  pub subject : mail.subject ≡ d.subject.now
  pub body : mail.body ≡ d.body.now
  pub labels : AreLabelsOf (labels_of d.labels.now) mail.labels
  pub flags : mail.flags ≡ d.flags
  pub day : mail.day ≡ d.day
