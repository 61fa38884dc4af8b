-- the line of a message, with its line feed
use Rattle.std.specs.Prelude.{◌≡◌, ℕ, List, [], ◌∷◌, ◌++◌, map, filter, codes}
use Rattle.std.specs.List.{concat, join_by}
use Rattle.mr_version.specs.Name.{Name, name_text}
use Rattle.mr_mail.specs.Day.{Spells}
use Rattle.mr_mail.specs.Flag.{flag_name, has_flag, all_flags}
use Rattle.mr_madewith.specs.Revision.{Rev}

-- texts with a separator between each two, or a dot where there is none
abbrev pub joined : List ℕ → List (List ℕ) → List ℕ
joined separator [] = codes "."
joined separator (text ∷ texts) = join_by (λ t. t) separator (text ∷ texts)

-- the names of a flag byte's flags
abbrev pub flags_text : ℕ → List ℕ
flags_text flags = joined (codes "+") (map flag_name (filter (has_flag flags) all_flags))

-- a subject behind what stands before it: after a space, if it is not empty
abbrev pub subject_text : List ℕ → List ℕ
subject_text [] = []
subject_text (b ∷ bs) = codes " " ++ b ∷ bs

-- `show V LABELS FLAGS DATE FROM`, of these words
abbrev pub shown_words : Name → List ℕ → List ℕ → List ℕ → List ℕ → List ℕ
shown_words version labels flags date from =
    concat (codes "show " ∷ name_text version ∷ codes " " ∷ labels ∷ codes " " ∷ flags ∷ codes " " ∷ date ∷ codes " " ∷ from ∷ [])

-- `show V LABELS FLAGS DATE FROM SUBJECT` of a revision, with this text of its day
abbrev pub shown_text : Rev → List ℕ → List ℕ
shown_text r date =
    shown_words r.version (joined (codes ",") r.message.labels) (flags_text r.message.flags) date r.message.from
    ++ subject_text r.message.subject ++ codes "\n"

-- the line shows the revision
pub record Shows (r : Rev) (line : List ℕ) : Type 0 where
  pub date : List ℕ
  pub is_date : Spells date r.message.day
  pub written : line ≡ shown_text r date
