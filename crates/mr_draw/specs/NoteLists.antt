-- what the requests, records and receipts of a world say, each in the order of their numbers: who asks, what it shows to
-- take a record, and the version of a receipt
use Rattle.std.specs.Prelude.{ℕ, List}
use Rattle.mr_version.specs.Name.{Name}
use Rattle.mr_draw.specs.declared.happening.Kind.{Kind}

pub record NoteLists : Type 0 where
  pub asks : List ℕ
  pub records : List Kind
  pub receipts : List Name
