-- single conditions, how each is spelled, and which clause a list of them makes
use Rattle.std.specs.Prelude.{◌≡◌, ℕ, ◌+◌, max, List, [], ◌∷◌, ◌++◌, Option, Some, None, IsTrue, codes}
use Rattle.std.specs.Int.RustNames.{bit_or}
use Rattle.std.specs.List.{filter_map}
use Rattle.mr_mail.specs.declared.flags.Flag.{Flag}
use Rattle.mr_mail.specs.Flag.{bit_of, flag_name}
use Rattle.mr_mail.specs.Label.{is_label, different_labels, AreLabelsOf}
use Rattle.mr_mail.specs.Day.{Spells}
use Rattle.mr_filter.specs.Filter.{ClauseParts}

-- what one condition asks of a message: that it has a label or lacks it, has a flag or lacks it, or is of this day or a later one
pub data Condition : Type 0 where
  HasLabel : (label : List ℕ) → Condition
  LacksLabel : (label : List ℕ) → Condition
  HasFlag : (flag : Flag) → Condition
  LacksFlag : (flag : Flag) → Condition
  Since : (day : ℕ) → Condition

-- what stands before the colon
abbrev pub kind_of : Condition → List ℕ
kind_of (HasLabel _) = codes "label"
kind_of (LacksLabel _) = codes "!label"
kind_of (HasFlag _) = codes "flag"
kind_of (LacksFlag _) = codes "!flag"
kind_of (Since _) = codes "since"

-- what stands behind the colon
abbrev pub IsValueOf : Condition → List ℕ → Type 0
IsValueOf (HasLabel label) value = IsTrue (is_label label) × (value ≡ label)
IsValueOf (LacksLabel label) value = IsTrue (is_label label) × (value ≡ label)
IsValueOf (HasFlag flag) value = value ≡ flag_name flag
IsValueOf (LacksFlag flag) value = value ≡ flag_name flag
IsValueOf (Since day) value = Spells value day

-- the text is the condition: its kind, a colon and its value
abbrev pub SpellsCondition : List ℕ → Condition → Type 0
SpellsCondition text condition =
    (value : List ℕ) × IsValueOf condition value × (text ≡ kind_of condition ++ 58 ∷ value)

-- what a condition adds to each part of a clause
abbrev pub wanted_label : Condition → Option (List ℕ)
wanted_label (HasLabel label) = Some label
wanted_label _ = None

abbrev pub barred_label : Condition → Option (List ℕ)
barred_label (LacksLabel label) = Some label
barred_label _ = None

abbrev pub bit_on : Condition → ℕ
bit_on (HasFlag flag) = bit_of flag
bit_on _ = 0

abbrev pub bit_off : Condition → ℕ
bit_off (LacksFlag flag) = bit_of flag
bit_off _ = 0

abbrev pub first_day : Condition → ℕ
first_day (Since day) = day
first_day _ = 0

-- the labels that are named, each as often as it is
abbrev pub wanted_labels : List Condition → List (List ℕ)
wanted_labels = filter_map wanted_label

abbrev pub barred_labels : List Condition → List (List ℕ)
barred_labels = filter_map barred_label

-- how many labels are named, those that are wanted and those that are barred each once
abbrev pub label_count : List Condition → ℕ
label_count given = different_labels (wanted_labels given) + different_labels (barred_labels given)

-- the flags that are named, together
abbrev pub all_bits : (Condition → ℕ) → List Condition → ℕ
all_bits bit [] = 0
all_bits bit (c ∷ cs) = bit_or (bit c) (all_bits bit cs)

abbrev pub bits_on : List Condition → ℕ
bits_on = all_bits bit_on

abbrev pub bits_off : List Condition → ℕ
bits_off = all_bits bit_off

-- the latest day that is named, and 1970-01-01 if none is
abbrev pub latest_day : List Condition → ℕ
latest_day [] = 0
latest_day (c ∷ cs) = max (first_day c) (latest_day cs)

-- the clause asks what these conditions ask together
pub record Combines (given : List Condition) (clause : ClauseParts) : Type 0 where
  pub wanted : AreLabelsOf (wanted_labels given) clause.all_labels
  pub barred : AreLabelsOf (barred_labels given) clause.no_labels
  pub on : clause.flags_on ≡ bits_on given
  pub off : clause.flags_off ≡ bits_off given
  pub since : clause.since ≡ latest_day given
