-- what comes of issuing a revision
use Rattle.std.specs.Prelude.{◌≡◌, ◌≢◌, ◌⊎◌, true, Result, Err}
use Rattle.mr_version.specs.Name.{Name}
use Rattle.mr_forms.specs.declared.fault.FormFault.{FormFault}
use Rattle.mr_forms.specs.declared.fault.FormFault.TheVariants as fault
use Rattle.mr_forms.specs.Known.{Pairs, Form, IsOnlyOverItems}
use Rattle.mr_madewith.specs.Revision.{Rev, IsRevision, has_below}
use Rattle.mr_replica.specs.State.{State, next_version}
use Rattle.mr_replica.specs.inner.Sound.{IsNoLater}
use Rattle.mr_replica.specs.Issue.{Wanted.Knowledge, Fits}
use Rattle.mr_replica.specs.declared.refusal.Refusal.{Refusal}
use Rattle.mr_replica.specs.declared.refusal.Refusal.TheVariants.{OutOfMemory, TooManyHoles, TooManyItems}

-- a revision of the next version, which supersedes no own version that was not issued
pub record IsNext {K : Type 0} (s : State K) (r : Rev) : Type 0 where
  pub version : r.version ≡ next_version s
  pub is : IsRevision r.item r.version r.below
  pub no_later : (v : Name) → has_below r v ≡ true → IsNoLater s.id s.issued v

module _ {K V : Type 0} (form : Form K) (made : Result V FormFault) (pairs : Pairs) where
  -- why there is no vector or no knowledge: the vector's limit, then those of the knowledge, then memory for the vector
  abbrev pub RefusesMade : Refusal → Type 0
  RefusesMade OutOfMemory = (made ≡ Err fault.OutOfMemory) × Fits form (Knowledge pairs)
  RefusesMade TooManyHoles = (made ≡ Err fault.TooManyHoles) ⊎ ((made ≢ Err fault.TooManyHoles) × form.has_too_many_holes pairs)
  RefusesMade TooManyItems = (made ≢ Err fault.TooManyHoles) × IsOnlyOverItems form pairs
  RefusesMade _ = ⊥
