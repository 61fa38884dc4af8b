-- a clause in the making: what the conditions so far ask together
use Rattle.std.specs.Prelude.{◌≡◌, ℕ, ◌+◌, max, [], ◌∷◌, ◌++◌}
use Rattle.std.specs.Int.RustNames.{bit_or}
use Rattle.mr_mail.specs.Label.{different_labels, AreLabelsOf}
use Rattle.mr_filter.specs.Filter.{ClauseParts}
use Rattle.mr_filter.specs.Condition.{Condition, wanted_labels, barred_labels, bit_on, bit_off, first_day}

-- the clause of no condition
abbrev pub no_condition : ClauseParts
no_condition = record { all_labels = []; no_labels = []; flags_on = 0; flags_off = 0; since = 0 }

-- the new clause asks what the old one does and what this condition does
pub record IsWithCondition (old : ClauseParts) (condition : Condition) (new : ClauseParts) : Type 0 where
  pub wanted : AreLabelsOf (old.all_labels ++ wanted_labels (condition ∷ [])) new.all_labels
  pub barred : AreLabelsOf (old.no_labels ++ barred_labels (condition ∷ [])) new.no_labels
  pub on : new.flags_on ≡ bit_or old.flags_on (bit_on condition)
  pub off : new.flags_off ≡ bit_or old.flags_off (bit_off condition)
  pub since : new.since ≡ max old.since (first_day condition)

-- how many labels the clause and this condition name, those that they want and those that they bar each once
abbrev pub label_count_with : ClauseParts → Condition → ℕ
label_count_with clause condition =
    different_labels (clause.all_labels ++ wanted_labels (condition ∷ []))
    + different_labels (clause.no_labels ++ barred_labels (condition ∷ []))
