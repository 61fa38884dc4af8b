-- the numbers of the store's faults
use Rattle.std.specs.Prelude.{ℕ}
use Rattle.mr_folder.specs.declared.store.StoreFault.{StoreFault}
use Rattle.mr_folder.specs.declared.store.StoreFault.TheVariants.{OutOfMemory, Failed}

abbrev pub store_fault_number : StoreFault → ℕ
store_fault_number OutOfMemory = 0
store_fault_number Failed = 1
