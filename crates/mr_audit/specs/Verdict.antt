-- What one history, or none, says of replicas.
use Rattle.std.specs.Prelude.{List, All}
use Rattle.mr_forms.specs.Known.{Form}
use Rattle.mr_replica.specs.State.{State}
use Rattle.mr_world.specs.Kept.{WorldView}
use Rattle.mr_world.specs.Promise.{Promises, moment_of}
use Rattle.mr_settle.specs.Explains.{Explains}
use Rattle.mr_settle.specs.Kept.{Keeps, KeepTogether}
use Rattle.mr_settle.specs.Stuck.{IsStuck}
use Rattle.mr_audit.specs.declared.verdict.Verdict.{Verdict}
use Rattle.mr_audit.specs.declared.verdict.Verdict.TheVariants.{OneHistory, Unexplained}

module _ {K : Type 0} (form : Form K) where
  -- The history of a world explains these replicas, and all that a world promises holds of it: none of them was told a version twice, and
  -- together they hold each version that was issued and that none supersedes.
  pub record AreExplained (ends : List (State K)) : Type 0 where
    pub world : WorldView K
    pub explains : Explains form ends world
    pub promises : Promises form world
    pub kept : All (Keeps form (moment_of world).issues) ends
    pub together : KeepTogether (moment_of world).issues ends

  -- one history explains them; or some history is stuck, and this is the first event of the lowest that it leaves out
  abbrev pub IsVerdict : List (State K) → Verdict → Type 0
  IsVerdict ends OneHistory = AreExplained ends
  IsVerdict ends (Unexplained replica event) = IsStuck form ends replica event
