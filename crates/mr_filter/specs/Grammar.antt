-- which texts are filters, which filter each is, and what is wrong with the others
use Rattle.std.specs.Prelude.{IsTrue, ◌≡◌, ◌≢◌, ℕ, ◌+◌, ◌<◌, ◌≤◌, Bool, true, false, ◌==◌, ◌&&◌, ◌⊎◌, List, [], ◌∷◌, ◌++◌, length, codes}
use Rattle.std.specs.List.{AllZip, AllByRecursion, list_all, onto_first, sum_by}
use Rattle.mr_mail.specs.Mail.{MailCard}
use Rattle.mr_filter.specs.Filter.{ClauseParts}
use Rattle.mr_filter.specs.Meaning.{is_true_of}
use Rattle.mr_filter.specs.Condition.{Condition, SpellsCondition, Combines, label_count}
use Rattle.mr_filter.specs.declared.filter.TheConstants.{MAX_CLAUSES}
use Rattle.mr_filter.specs.declared.clause.TheConstants.{MAX_CLAUSE_LABELS}

-- the mark between two spaces
abbrev pub is_separator : ℕ → ℕ → ℕ → ℕ → Bool
is_separator mark a b c = (b == mark) && (a == 32) && (c == 32)

-- a text cut from the left at each mark between two spaces
abbrev pub cut_at : ℕ → List ℕ → List (List ℕ)
cut_at mark [] = [] ∷ []
cut_at mark (a ∷ []) = (a ∷ []) ∷ []
cut_at mark (a ∷ b ∷ []) = (a ∷ b ∷ []) ∷ []
cut_at mark (a ∷ b ∷ c ∷ rest) =
    elim (is_separator mark a b c) [ true ↦ [] ∷ cut_at mark rest | false ↦ onto_first a (cut_at mark (b ∷ c ∷ rest)) ]

-- a text cut at ` | `, and a clause cut at ` & `
abbrev pub clauses_of : List ℕ → List (List ℕ)
clauses_of = cut_at 124

abbrev pub pieces_of : List ℕ → List (List ℕ)
pieces_of = cut_at 38

-- the clause's text is these conditions, or `all` for none
abbrev pub SpellsConditions : List ℕ → List Condition → Type 0
SpellsConditions clause given =
    ((clause ≡ codes "all") × (given ≡ [])) ⊎ AllZip SpellsCondition (pieces_of clause) given

-- the clause's text means this clause
pub record ReadsClause (text : List ℕ) (clause : ClauseParts) : Type 0 where
  pub given : List Condition
  pub spelled : SpellsConditions text given
  pub combined : Combines given clause

-- the text means this filter: its clauses in their order, or none for `none`
abbrev pub Reads : List ℕ → List ClauseParts → Type 0
Reads text filter = ((text ≡ codes "none") × (filter ≡ [])) ⊎ AllZip ReadsClause (clauses_of text) filter

-- the clause's text is in the grammar, and each of its conditions is true of a message with this card
pub record IsTrueClause (card : MailCard) (clause : List ℕ) : Type 0 where
  pub given : List Condition
  pub spelled : SpellsConditions clause given
  pub each : IsTrue (list_all (is_true_of card) given)

-- some of the clauses is true of a message with this card
abbrev pub HasTrueClause : MailCard → List (List ℕ) → Type 0
HasTrueClause card [] = ⊥
HasTrueClause card (clause ∷ clauses) = IsTrueClause card clause ⊎ HasTrueClause card clauses

-- a piece that is a condition, and a clause's text that is in the grammar
abbrev pub IsCondition : List ℕ → Type 0
IsCondition piece = (condition : Condition) × SpellsCondition piece condition

abbrev pub IsClauseInGrammar : List ℕ → Type 0
IsClauseInGrammar clause = (clause ≡ codes "all") ⊎ AllByRecursion IsCondition (pieces_of clause)

abbrev pub IsInGrammar : List ℕ → Type 0
IsInGrammar text = (text ≡ codes "none") ⊎ AllByRecursion IsClauseInGrammar (clauses_of text)

-- how many bytes pieces take, each with a separator of three bytes behind it
abbrev pub width : List (List ℕ) → ℕ
width pieces = sum_by (λ piece. length piece + 3) pieces

-- the first piece of the clause that is not in the grammar has this many bytes of the clause before it
pub record IsFirstBadPiece (clause : List ℕ) (place : ℕ) : Type 0 where
  pub before : List (List ℕ)
  pub piece : List ℕ
  pub after : List (List ℕ)
  pub pieces : pieces_of clause ≡ before ++ piece ∷ after
  pub fine : AllByRecursion IsCondition before
  pub bad : IsCondition piece → ⊥
  pub not_all : clause ≢ codes "all"
  pub place_is : place ≡ width before

-- the first piece of the text that is not in the grammar has this many bytes of the text before it
pub record IsFirstBad (text : List ℕ) (place : ℕ) : Type 0 where
  pub before : List (List ℕ)
  pub clause : List ℕ
  pub after : List (List ℕ)
  pub in_clause : ℕ
  pub clauses : clauses_of text ≡ before ++ clause ∷ after
  pub fine : AllByRecursion IsClauseInGrammar before
  pub bad : IsFirstBadPiece clause in_clause
  pub not_none : text ≢ codes "none"
  pub place_is : place ≡ width before + in_clause

-- the text is in the grammar, with more than sixteen clauses
pub record HasTooManyClauses (text : List ℕ) : Type 0 where
  pub in_grammar : IsInGrammar text
  pub many : MAX_CLAUSES < length (clauses_of text)

-- the clause names more than eight labels, those that it wants and those that it bars each once
pub record NamesTooMany (clause : List ℕ) : Type 0 where
  pub given : List Condition
  pub spelled : SpellsConditions clause given
  pub many : MAX_CLAUSE_LABELS < label_count given

-- some clause of the text names more than eight labels
pub record HasCrowdedClause (text : List ℕ) : Type 0 where
  pub before : List (List ℕ)
  pub clause : List ℕ
  pub after : List (List ℕ)
  pub clauses : clauses_of text ≡ before ++ clause ∷ after
  pub many : NamesTooMany clause

-- the text is in the grammar, with at most sixteen clauses, of which one names more than eight labels
pub record HasTooManyLabels (text : List ℕ) : Type 0 where
  pub in_grammar : IsInGrammar text
  pub few : length (clauses_of text) ≤ MAX_CLAUSES
  pub crowded : HasCrowdedClause text
