-- filters as contracts see them: lists of clauses, and what the types keep
use Rattle.std.specs.Prelude.{ℕ, ◌+◌, ◌≤◌, ◌<◌, List, length, All, refl}
use Rattle.std.specs.Coded.{Coded, code_by, coded×, coded_ℕ, coded_list}
use Rattle.mr_mail.specs.Label.{IsLabelSet}
use Rattle.mr_mail.specs.Mail.{coded_text}
use Rattle.mr_filter.specs.declared.clause.TheConstants.{MAX_CLAUSE_LABELS}
use Rattle.mr_filter.specs.declared.filter.TheConstants.{MAX_CLAUSES}

-- a clause: the labels that it wants and bars, the flags that it wants on and off, and its first day
pub record ClauseParts : Type 0 where
  pub all_labels : List (List ℕ)
  pub no_labels : List (List ℕ)
  pub flags_on : ℕ
  pub flags_off : ℕ
  pub since : ℕ

-- the clause with these labels wanted and barred, flags on and off, and first day
abbrev pub clause_with : List (List ℕ) → List (List ℕ) → ℕ → ℕ → ℕ → ClauseParts
clause_with wanted barred on off since =
    record { all_labels = wanted; no_labels = barred; flags_on = on; flags_off = off; since = since }

-- what each clause keeps: each of its lists of labels strictly rises, and together they have at most eight
pub record IsClause (clause : ClauseParts) : Type 0 where
  pub wanted : IsLabelSet clause.all_labels
  pub barred : IsLabelSet clause.no_labels
  pub few : length clause.all_labels + length clause.no_labels ≤ MAX_CLAUSE_LABELS
  pub on_in : clause.flags_on ≤ 31
  pub off_in : clause.flags_off ≤ 31
  pub since_in : clause.since < 65536

-- what each filter keeps: at most sixteen clauses
pub record IsFilter (clauses : List ClauseParts) : Type 0 where
  pub each : All IsClause clauses
  pub few : length clauses ≤ MAX_CLAUSES

-- a clause is stored as the tuple of its fields, and a filter as the list of its clauses
abbrev pub clause_code : Coded ClauseParts
clause_code =
    code_by ((List (List ℕ) × List (List ℕ)) × (ℕ × (ℕ × ℕ)))
    (coded× (coded× (coded_list coded_text) (coded_list coded_text)) (coded× coded_ℕ (coded× coded_ℕ coded_ℕ)))
    (λ c. ((c.all_labels, c.no_labels), (c.flags_on, (c.flags_off, c.since))))
    (λ p. record { all_labels = p.0.0; no_labels = p.0.1; flags_on = p.1.0; flags_off = p.1.1.0; since = p.1.1.1 }) (λ _. refl)

abbrev pub filter_code : Coded (List ClauseParts)
filter_code = coded_list clause_code
