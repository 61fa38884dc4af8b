use Rattle.std.specs.Prelude.{ℕ}
use Rattle.mr_forms.specs.declared.fault.FormFault.{FormFault}
use Rattle.mr_forms.specs.declared.fault.FormFault.TheVariants.{OutOfMemory, TooManyHoles, TooManyItems}

-- the number of a fault
abbrev pub fault_number : FormFault → ℕ
fault_number OutOfMemory = 0
fault_number TooManyHoles = 1
fault_number TooManyItems = 2
