-- places of an index
use Rattle.std.specs.Prelude.{ℕ, ◌&&◌, Bool, List}
use Rattle.std.specs.Ordering.{is_eq}
use Rattle.mr_version.specs.Name.{Name, name_eq}
use Rattle.mr_mail.specs.Label.{text_cmp}

-- ---- shelves: a set of versions for each label

-- it is this label and this version
abbrev pub is_place : List ℕ → Name → List ℕ → Name → Bool
is_place label version q v = is_eq (text_cmp label q) && name_eq version v
