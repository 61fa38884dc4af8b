-- what comes of a plan is no fault of its reading
use Rattle.std.proofs.Common.{◌≡◌, ℕ, Bool, List, Option, Result, Err, inl, inr, subst}
use Rattle.mr_forms.specs.Known.{Form}
use Rattle.mr_script.specs.declared.fault.ScriptFault.TheVariants.{TooLong}
use Rattle.mr_live.specs.Live.{Writes, PlanEnds, CannotMeet}
use Rattle.mr_live.specs.Plan.{PlanView}
use Rattle.mr_live.specs.declared.fault.LiveFault.{LiveFault}
use Rattle.mr_live.specs.declared.fault.LiveFault.TheVariants.{OutOfMemory, Script, NotTwo}

cannot : (p : PlanView) (fault : LiveFault) → fault ≡ Script TooLong → CannotMeet p fault → ⊥
cannot p OutOfMemory is h = cc is
cannot p NotTwo is h = cc is
cannot p (Script f) is h = h

module _ {K : Type 0} (form : Form K) where
  pub plan_not_read : (p : PlanView) (result : Result Bool LiveFault) (old new : Option (List ℕ)) → PlanEnds form p result old new → result ≡ Err (Script TooLong) → ⊥
  plan_not_read p result old new (inl (nodes, are, inl (joined, text, met, writes))) is =
      let wrote : Writes joined text (Err (Script TooLong)) old new = subst (λ (r : Result Bool LiveFault). Writes joined text r old new) is writes in
      cc (wrote.0)
  plan_not_read p result old new (inl (nodes, are, inr h)) is = cc (h.0, is)
  plan_not_read p result old new (inr (fault, same, cannot_meet, unwritten)) is =
      cannot p fault (cc (same, is)) cannot_meet
