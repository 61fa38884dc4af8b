-- for what there has to be a value before memory may be wanted
use Rattle.std.specs.Prelude.{Bool, true, false, List, [], ◌∷◌, All}
use Rattle.mr_forms.specs.Known.{Form}
use Rattle.mr_replica.specs.Issue.{Wanted, Fits}

module _ {K : Type 0} where
  -- there is a value for the first of these
  abbrev pub FirstFits : Form K → List Wanted → Type 0
  FirstFits form [] = Unit {0}
  FirstFits form (w ∷ ws) = Fits form w

  -- there is a value for each of these; or, where they are made one after the other, for the first
  abbrev pub FitBeforeMemory : Form K → (in_turn : Bool) → List Wanted → Type 0
  FitBeforeMemory form false ws = All (Fits form) ws
  FitBeforeMemory form true ws = FirstFits form ws
