-- what is printed where replicas are not explained
use Rattle.std.specs.Prelude.{◌≡◌, ℕ, Bool, false, List, Option, Some, None}
use Rattle.mr_replica.specs.State.{State}
use Rattle.mr_forms.specs.Known.{Form}
use Rattle.mr_settle.specs.Stuck.{IsWhy}
use Rattle.mr_settle.specs.declared.fault.JoinFault.{JoinFault}
use Rattle.mr_settle.specs.declared.fault.JoinFault.TheVariants.{OutOfMemory, Unexplained}
use Rattle.mr_live.specs.Telling.{unexplained_text, AreExplained}

-- what is told of the fault: nothing where there was no memory
abbrev pub TellsFault : JoinFault → (joined : Bool) → (text : List ℕ) → Type 0
TellsFault OutOfMemory joined text = ⊥
TellsFault (Unexplained replica event) joined text = (joined ≡ false) × (text ≡ unexplained_text replica event)

module _ {K : Type 0} (form : Form K) where
  -- they are explained, or this is why not
  abbrev pub IsWhyNot : List (State K) → Option JoinFault → Type 0
  IsWhyNot ends None = AreExplained form ends
  IsWhyNot ends (Some fault) = IsWhy form ends fault
