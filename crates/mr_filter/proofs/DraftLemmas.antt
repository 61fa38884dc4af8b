-- a draft with one more condition
use Rattle.std.proofs.Common.{◌≡◌, ℕ, ◌-◌, ◌<◌, List, [], ◌∷◌, ◌++◌, length, max, Result, sym, subst, refl, arith, append-nil}
use Rattle.mr_filter.proofs.Names.{AreLabelsOf, ClauseParts, Flag, HasFlag, HasLabel, IfErr, IsClause, IsStrictlySortedBy, IsWithCondition, LacksFlag}
use Rattle.mr_filter.proofs.Names.{LacksLabel, MAX_CLAUSE_LABELS, Since, bit_of, bit_or, different_labels, label_count_with, or_zero_r, text_cmp}
use Rattle.mr_filter.proofs.PlaceLemmas.{different_labels-rising}

-- labels to which none comes
AreLabelsOf-same : (labels : List (List ℕ)) → IsStrictlySortedBy text_cmp labels → AreLabelsOf (labels ++ []) labels
AreLabelsOf-same labels rising = subst (λ given. AreLabelsOf given labels) (sym (append-nil labels)) (record { rising = rising; same = λ label. refl })

same_bits : (bits : ℕ) → bits ≡ bit_or bits 0
same_bits bits = sym (or_zero_r bits)

module _ (old : ClauseParts) (kept : IsClause old) where
  pub with_wanted : (label : List ℕ) (labels : List (List ℕ)) → AreLabelsOf (old.all_labels ++ label ∷ []) labels → IsWithCondition old (HasLabel label) (record old { all_labels = labels })
  with_wanted label labels put = record { wanted = put; barred = AreLabelsOf-same old.no_labels kept.barred.rising; on = same_bits old.flags_on; off = same_bits old.flags_off; since = omega arith }

  pub with_barred : (label : List ℕ) (labels : List (List ℕ)) → AreLabelsOf (old.no_labels ++ label ∷ []) labels → IsWithCondition old (LacksLabel label) (record old { no_labels = labels })
  with_barred label labels put = record { wanted = AreLabelsOf-same old.all_labels kept.wanted.rising; barred = put; on = same_bits old.flags_on; off = same_bits old.flags_off; since = omega arith }

  pub with_flag_on : (flag : Flag) → IsWithCondition old (HasFlag flag) (record old { flags_on = bit_or old.flags_on (bit_of flag) })
  with_flag_on flag = record { wanted = AreLabelsOf-same old.all_labels kept.wanted.rising; barred = AreLabelsOf-same old.no_labels kept.barred.rising; on = refl; off = same_bits old.flags_off; since = omega arith }

  pub with_flag_off : (flag : Flag) → IsWithCondition old (LacksFlag flag) (record old { flags_off = bit_or old.flags_off (bit_of flag) })
  with_flag_off flag = record { wanted = AreLabelsOf-same old.all_labels kept.wanted.rising; barred = AreLabelsOf-same old.no_labels kept.barred.rising; on = same_bits old.flags_on; off = refl; since = omega arith }

  pub with_day : (day latest : ℕ) → latest ≡ max old.since day → IsWithCondition old (Since day) (record old { since = latest })
  with_day day latest is = record { wanted = AreLabelsOf-same old.all_labels kept.wanted.rising; barred = AreLabelsOf-same old.no_labels kept.barred.rising; on = same_bits old.flags_on; off = same_bits old.flags_off; since = is }

  -- one more label than there is room for
  pub wanted_too_many : (label : List ℕ) → MAX_CLAUSE_LABELS - length old.no_labels < different_labels (old.all_labels ++ label ∷ []) → MAX_CLAUSE_LABELS < label_count_with old (HasLabel label)
  wanted_too_many label more = grind (arith, append-nil, different_labels-rising)

  pub barred_too_many : (label : List ℕ) → MAX_CLAUSE_LABELS - length old.all_labels < different_labels (old.no_labels ++ label ∷ []) → MAX_CLAUSE_LABELS < label_count_with old (LacksLabel label)
  barred_too_many label more = grind (arith, append-nil, different_labels-rising)

-- a fact of no error is one of each
pub IfErr-any : {X E : Type 0} (result : Result X E) (P : Type 0) → P → IfErr result (λ _. P)
IfErr-any result P holds = grind arith
