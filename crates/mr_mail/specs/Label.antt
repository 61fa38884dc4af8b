-- labels as contracts see them: lists of bytes
use Rattle.std.specs.Prelude.{◌≡◌, ℕ, ◌≤◌, Bool, ◌&&◌, ◌||◌, ◌==◌, nat_eq, nat_le, List, length, map, string_bytes}
use Rattle.std.specs.List.{list_all, AllPass}
use Rattle.std.specs.List.Sorted.{IsStrictlySortedBy}
use Rattle.std.specs.declared.cmp.Ordering.{Ordering}
use Rattle.std.specs.Ordering.{nat_cmp}
use Rattle.std.specs.Cmp.Lexicographic.{pointwise, slice_cmp}
use Rattle.std.specs.declared.string.String.{String}
use Rattle.std.specs.declared.alloc.Global.{Global}
use Rattle.std.specs.Set.{is_member, distinct_count}
use Rattle.mr_mail.specs.declared.label.TheConstants.{MAX_LABEL_BYTES, MAX_LABELS}

-- texts are compared by their bytes
abbrev pub text_cmp : List ℕ → List ℕ → Ordering
text_cmp = slice_cmp nat_cmp

abbrev pub text_eq : List ℕ → List ℕ → Bool
text_eq = pointwise nat_eq

-- a-z, 0-9 and -
abbrev pub is_label_byte : ℕ → Bool
is_label_byte b = (nat_le 97 b && nat_le b 122) || (nat_le 48 b && nat_le b 57) || (b == 45)

-- one to 32 bytes of a-z, 0-9 and -
abbrev pub is_label : List ℕ → Bool
is_label text = nat_le 1 (length text) && nat_le (length text) MAX_LABEL_BYTES && list_all is_label_byte text

-- the bytes of each text
abbrev pub texts_of : List (String Global) → List (List ℕ)
texts_of texts = map (λ text. string_bytes text) texts

-- whether the label is among these
abbrev pub has_label : List (List ℕ) → List ℕ → Bool
has_label labels label = is_member text_eq labels label

-- how many different labels there are
abbrev pub different_labels : List (List ℕ) → ℕ
different_labels labels = distinct_count text_eq labels

-- what a message or a card keeps: at most sixteen labels, each below the next
pub record IsLabelSet (labels : List (List ℕ)) : Type 0 where
  pub rising : IsStrictlySortedBy text_cmp labels
  pub each : AllPass is_label labels
  pub few : length labels ≤ MAX_LABELS

-- the labels that were given, in rising order and each once
pub record AreLabelsOf (given labels : List (List ℕ)) : Type 0 where
  pub rising : IsStrictlySortedBy text_cmp labels
  pub same : (label : List ℕ) → has_label labels label ≡ has_label given label
