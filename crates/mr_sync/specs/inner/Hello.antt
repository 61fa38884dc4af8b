-- why what is known isn't told
use Rattle.mr_forms.specs.declared.fault.FormFault.{FormFault}
use Rattle.mr_forms.specs.declared.fault.FormFault.TheVariants.{OutOfMemory, TooManyHoles, TooManyItems}
use Rattle.mr_itemset.specs.Normal.{Normal}
use Rattle.mr_itemset.specs.Sparing.{sparing_form}
use Rattle.mr_replica.specs.Fragments.{HasHoleyPart}

-- why what is known isn't told: it has a part with too many holes for a fragment, or memory runs out
abbrev pub IsUntold : Normal → FormFault → Type 0
IsUntold k OutOfMemory = Unit {0}
IsUntold k TooManyHoles = HasHoleyPart (sparing_form.is_part k)
IsUntold k TooManyItems = ⊥
