-- labels in order, and the one of the Maildir itself
use Rattle.std.specs.Prelude.{ℕ, List, [], ◌∷◌, codes}
use Rattle.std.specs.Ordering.{match_ordering}
use Rattle.mr_mail.specs.Label.{text_cmp}

-- the label of the inbox
abbrev pub inbox : List ℕ
inbox = codes "inbox"

-- labels in rising order, with one more at its place
abbrev pub with_label : List ℕ → List (List ℕ) → List (List ℕ)
with_label label [] = label ∷ []
with_label label (first ∷ more) = match_ordering (text_cmp label first) (label ∷ first ∷ more) (first ∷ more) (first ∷ with_label label more)

-- these labels in rising order, each once
abbrev pub in_order : List (List ℕ) → List (List ℕ)
in_order [] = []
in_order (label ∷ labels) = with_label label (in_order labels)
