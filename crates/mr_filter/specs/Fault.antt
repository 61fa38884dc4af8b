-- why a text is no filter
use Rattle.std.specs.Prelude.{ℕ, ◌≤◌, List, length}
use Rattle.mr_filter.specs.declared.fault.FilterFault.{FilterFault}
use Rattle.mr_filter.specs.declared.fault.FilterFault.TheVariants.{OutOfMemory, BadFilter, TooManyClauses, TooManyLabels}
use Rattle.mr_filter.specs.Grammar.{clauses_of, IsInGrammar, IsFirstBad, HasTooManyClauses, HasCrowdedClause, HasTooManyLabels}
use Rattle.mr_filter.specs.declared.filter.TheConstants.{MAX_CLAUSES}

-- the number by which a host knows a fault
abbrev pub fault_number : FilterFault → ℕ
fault_number OutOfMemory = 0
fault_number (BadFilter _) = 1
fault_number TooManyClauses = 2
fault_number TooManyLabels = 3

-- the text is in the grammar, with at most sixteen clauses, and none of them names more than eight labels
pub record IsWithinLimits (text : List ℕ) : Type 0 where
  pub in_grammar : IsInGrammar text
  pub few : length (clauses_of text) ≤ MAX_CLAUSES
  pub uncrowded : HasCrowdedClause text → ⊥

-- the case of each fault; memory is wanting only where there is no other
abbrev pub IsFaultOf : List ℕ → FilterFault → Type 0
IsFaultOf text OutOfMemory = IsWithinLimits text
IsFaultOf text (BadFilter place) = IsFirstBad text place
IsFaultOf text TooManyClauses = HasTooManyClauses text
IsFaultOf text TooManyLabels = HasTooManyLabels text
