-- conditions of the code, which lend their labels from a text, as conditions; and such labels
use Rattle.std.specs.Prelude.{◌≡◌, ℕ, List, map, false, ◌==◌}
use Rattle.std.specs.Borrow.{Bor}
use Rattle.std.specs.List.{AllByRecursion}
use Rattle.mr_filter.specs.declared.condition.Condition.{Condition as WrittenCondition}
use Rattle.mr_filter.specs.declared.condition.Condition.TheVariants as written
use Rattle.mr_filter.specs.Condition.{Condition, HasLabel, LacksLabel, HasFlag, LacksFlag, Since}

abbrev pub meaning_of : WrittenCondition → Condition
meaning_of (written.HasLabel label) = HasLabel label.now
meaning_of (written.LacksLabel label) = LacksLabel label.now
meaning_of (written.HasFlag flag) = HasFlag flag
meaning_of (written.LacksFlag flag) = LacksFlag flag
meaning_of (written.Since day) = Since day

-- the texts that are lent
abbrev pub lent_texts : List (Bor (List ℕ)) → List (List ℕ)
lent_texts = map (λ text. text.now)

-- no byte is a colon
abbrev pub LacksColon : List ℕ → Type 0
LacksColon = AllByRecursion (λ b. (b == 58) ≡ false)
