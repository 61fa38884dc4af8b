-- a filter is written in one way
use Rattle.std.proofs.Common.{◌≡◌, ℕ, List, ◌∷◌, ◌++◌, sym, ◌∙◌, ap, codes}
use Rattle.mr_mail.proofs.DayLemmas.{Spells_text}
use Rattle.mr_filter.proofs.Names.{ClauseParts, Condition, HasFlag, HasLabel, IsClauseText, IsFilterText, IsValueOf, LacksFlag, LacksLabel, Since}
use Rattle.mr_filter.proofs.Names.{SpellsCondition, conditions_of, join_or, kind_of}
use Rattle.mr_filter.proofs.ZipLemmas.{zip_flipped, zip_unique}

value_written : (c : Condition) (v w : List ℕ) → IsValueOf c v → IsValueOf c w → v ≡ w
value_written (HasLabel label) v w x y = x.1 ∙ sym y.1
value_written (LacksLabel label) v w x y = x.1 ∙ sym y.1
value_written (HasFlag flag) v w x y = x ∙ sym y
value_written (LacksFlag flag) v w x y = x ∙ sym y
value_written (Since day) v w x y = Spells_text v w day x y

condition_written : (c : Condition) (a b : List ℕ) → SpellsCondition a c → SpellsCondition b c → a ≡ b
condition_written c a b x y = x.2 ∙ ap (λ value. kind_of c ++ 58 ∷ value) (value_written c x.0 y.0 x.1 y.1) ∙ sym y.2

clause_written : (clause : ClauseParts) (a b : List ℕ) → IsClauseText clause a → IsClauseText clause b → a ≡ b
clause_written clause a b x y =
    let same =
    zip_unique (λ c piece. SpellsCondition piece c) condition_written (conditions_of clause) x.pieces y.pieces
    (zip_flipped SpellsCondition x.pieces (conditions_of clause) x.spelled) (zip_flipped SpellsCondition y.pieces (conditions_of clause) y.spelled) in
    x.joined ∙ ap (join_or (codes "all") (codes " & ")) same ∙ sym y.joined

pub filter_written : (filter : List ClauseParts) (a b : List ℕ) → IsFilterText filter a → IsFilterText filter b → a ≡ b
filter_written filter a b x y =
    x.joined ∙ ap (join_or (codes "none") (codes " | ")) (zip_unique IsClauseText clause_written filter x.pieces y.pieces x.spelled y.spelled) ∙ sym y.joined
