-- how the program ends where a live script was run
use Rattle.std.proofs.Common.{ℕ, Bool, List, Option, Some, None, Result, IfSome, refl}
use Rattle.mr_forms.specs.Known.{Form}
use Rattle.mr_script.specs.declared.fault.ScriptFault.{ScriptFault}
use Rattle.mr_live.specs.Live.{LiveEnds}
use Rattle.mr_live.specs.Plan.{PlanView, ScriptAsks}
use Rattle.mr_live.specs.declared.fault.LiveFault.{LiveFault}
use Rattle.mr_program.specs.Ending.{ending_of_live}
use Rattle.mr_program.specs.Printing.{EndsLive}

-- it ends as the script does
pub ends_live : {K : Type 0} (form : Form K) (read : Option (List ℕ)) (asks : Result PlanView ScriptFault) (joined : Result Bool LiveFault) (old new : Option (List ℕ))
    → IfSome read (λ script. ScriptAsks script asks) → LiveEnds form asks joined old new → IfSome read (λ script. EndsLive form script (ending_of_live joined) old new)
ends_live form None asks joined old new are comes = tt
ends_live form (Some script) asks joined old new are comes = record { asks = asks; are = are; joined = joined; comes = comes; is = refl }
