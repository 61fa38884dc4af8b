-- labels that are read while they are counted
use Rattle.std.specs.Prelude.{◌≡◌, ℕ, List, length, Option, Some, None}
use Rattle.mr_mail.specs.Mail.{Mail}
use Rattle.std.specs.Global.{Vec}
use Rattle.mr_wire.specs.Reading.{Stands}
use Rattle.mr_wire.specs.Parts.{labels_at}

-- the label that stands before the next one
abbrev pub next_label : Option (List ℕ) → List ℕ → Option (List ℕ)
next_label _ label = Some label

abbrev pub FindsLabels : List ℕ → Option (Option (Vec (List ℕ)) × ℕ) → List ℕ → Type 0
FindsLabels old None new = labels_at old ≡ None
FindsLabels old (Some found) new = Stands (λ (v : Vec (List ℕ)). v.items) labels_at old found.0 new (λ labels. length labels ≡ found.1)

-- the message of these parts
abbrev pub message_with : List ℕ → List ℕ → List ℕ → List (List ℕ) → ℕ → ℕ → Mail
message_with from subject body labels flags day = record { from = from; subject = subject; body = body; labels = labels; flags = flags; day = day }
