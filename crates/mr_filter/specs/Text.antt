-- how a filter is written
use Rattle.std.specs.Prelude.{◌≡◌, ℕ, ◌==◌, if◌then◌else◌, List, [], ◌∷◌, ◌++◌, map, filter, codes}
use Rattle.std.specs.List.{AllZip}
use Rattle.mr_mail.specs.Flag.{all_flags, has_flag}
use Rattle.mr_filter.specs.Filter.{ClauseParts}
use Rattle.mr_filter.specs.Condition.{Condition, HasLabel, LacksLabel, HasFlag, LacksFlag, Since, SpellsCondition}

-- the condition on a first day, which 1970-01-01 needs not
abbrev pub since_condition : ℕ → List Condition
since_condition day = if day == 0 then [] else Since day ∷ []

-- the conditions of a clause in the order in which they are written
abbrev pub conditions_of : ClauseParts → List Condition
conditions_of clause =
    map HasLabel clause.all_labels
    ++ map LacksLabel clause.no_labels
    ++ map HasFlag (filter (has_flag clause.flags_on) all_flags)
    ++ map LacksFlag (filter (has_flag clause.flags_off) all_flags)
    ++ since_condition clause.since

-- the texts with the separator between each two, or `none` for no text
abbrev pub join_or : List ℕ → List ℕ → List (List ℕ) → List ℕ
join_or none separator [] = none
join_or none separator (text ∷ []) = text
join_or none separator (text ∷ next ∷ more) = text ++ (separator ++ join_or none separator (next ∷ more))

-- the text is the clause: its conditions, or `all`
pub record IsClauseText (clause : ClauseParts) (text : List ℕ) : Type 0 where
  pub pieces : List (List ℕ)
  pub spelled : AllZip SpellsCondition pieces (conditions_of clause)
  pub joined : text ≡ join_or (codes "all") (codes " & ") pieces

-- the text is the filter: its clauses, or `none`
pub record IsFilterText (filter : List ClauseParts) (text : List ℕ) : Type 0 where
  pub pieces : List (List ℕ)
  pub spelled : AllZip IsClauseText filter pieces
  pub joined : text ≡ join_or (codes "none") (codes " | ") pieces
