-- what a world makes of a replica's refusal
use Rattle.std.specs.Prelude.{◌≡◌, ◌≢◌, Result, Ok, Err}
use Rattle.mr_replica.specs.declared.refusal.Refusal.{Refusal}
use Rattle.mr_replica.specs.declared.refusal.Refusal.TheVariants as refusal
use Rattle.mr_world.specs.declared.answer.Answer.{Answer}
use Rattle.mr_world.specs.declared.answer.Answer.TheVariants.{Stepped}
use Rattle.mr_world.specs.declared.fault.WorldFault.{WorldFault}
use Rattle.mr_world.specs.declared.fault.WorldFault.TheVariants.{OutOfMemory}

-- a refusal is an answer, but want of memory is a fault
abbrev pub IsRefusedBy : Refusal → Result Answer WorldFault → Type 0
IsRefusedBy e (Ok (Stepped (Err x))) = (x ≡ e) × (e ≢ refusal.OutOfMemory)
IsRefusedBy e (Err OutOfMemory) = e ≡ refusal.OutOfMemory
IsRefusedBy e result = ⊥
