-- the settings of a folder
use Rattle.std.specs.Prelude.{ℕ, Bool, true, false, ◌||◌, ◌==◌, if◌then◌else◌, List, [], ◌∷◌, ◌++◌, codes, Option, Some, None, Result, Ok, Err}
use Rattle.std.specs.List.{list_all, list_any}
use Rattle.mr_mail.specs.Label.{text_eq}
use Rattle.mr_maildir.specs.Layout.{cut_at}
use Rattle.mr_maildir.specs.declared.layout.Layout.{Layout}
use Rattle.mr_maildir.specs.declared.layout.Layout.TheVariants.{Dots, Plain}
use Rattle.mr_fold.specs.declared.fold_fault.FoldFault.{FoldFault}
use Rattle.mr_fold.specs.declared.fold_fault.FoldFault.TheVariants.{BadSettings}

-- the line that tells a layout
abbrev pub layout_line : Layout → List ℕ
layout_line Dots = codes "layout = dots"
layout_line Plain = codes "layout = plain"

-- the settings that tell a layout
abbrev pub settings_text : Layout → List ℕ
settings_text layout = layout_line layout ++ 10 ∷ []

-- a line is empty, or begins with #
abbrev pub is_comment : List ℕ → Bool
is_comment [] = true
is_comment (b ∷ line) = b == 35

-- a line tells a layout, or is a comment
abbrev pub is_setting : List ℕ → Bool
is_setting line = text_eq line (layout_line Dots) || text_eq line (layout_line Plain) || is_comment line

-- some line tells the layout
abbrev pub tells : List ℕ → Layout → Bool
tells text layout = list_any (λ line. text_eq line (layout_line layout)) (cut_at 10 text)

-- the layout that the settings tell, if each line means something and they don't tell both
abbrev pub only_one : (dots plain : Bool) → Result (Option Layout) FoldFault
only_one true true = Err BadSettings
only_one true false = Ok (Some Dots)
only_one false true = Ok (Some Plain)
only_one false false = Ok None

abbrev pub layout_told : List ℕ → Result (Option Layout) FoldFault
layout_told text = if list_all is_setting (cut_at 10 text) then only_one (tells text Dots) (tells text Plain) else Err BadSettings
