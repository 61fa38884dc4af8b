-- held mails, revision by revision
use Rattle.std.specs.Prelude.{◌≡◌, ℕ, List, ◌++◌, Option}
use Rattle.mr_version.specs.Name.{Name}
use Rattle.mr_madewith.specs.Revision.{Rev}
use Rattle.mr_compare.specs.declared.held.Head.{Head}
use Rattle.mr_compare.specs.Held.{Tells, heads_told}

-- one revision more was read
pub record ReadsOne (r : Rev) (old new : List ((List ℕ × Name) × Head)) : Type 0 where
  pub told : Option (List ℕ)
  pub by_body : Tells r.message.body told
  pub heads_are : new ≡ old ++ heads_told r told
