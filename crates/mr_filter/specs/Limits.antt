-- the limits, as numbers: contracts name them
use Rattle.std.specs.Prelude.{◌≡◌, refl}
use Rattle.mr_filter.specs.declared.filter.TheConstants.{MAX_CLAUSES}
use Rattle.mr_filter.specs.declared.clause.TheConstants.{MAX_CLAUSE_LABELS}

pub clauses : MAX_CLAUSES ≡ 16
clauses = refl

pub clause_labels : MAX_CLAUSE_LABELS ≡ 8
clause_labels = refl
