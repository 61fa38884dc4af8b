-- what a member does, and what then comes into the pools
use Rattle.std.specs.Prelude.{◌≡◌, Result, Ok, Err}
use Rattle.mr_world.specs.Pool.{PoolList}
use Rattle.mr_world.specs.inner.Given.{IsGivenBy, Gains, KeepsFrames}
use Rattle.mr_world.specs.declared.answer.Answer.{Answer}
use Rattle.mr_world.specs.declared.answer.Answer.TheVariants.{Stepped}
use Rattle.mr_world.specs.declared.fault.WorldFault.{WorldFault}
use Rattle.mr_world.specs.declared.fault.WorldFault.TheVariants as fault
use Rattle.mr_world.specs.declared.pools.Given.{Given}

-- the frame of what an answer gives comes into its pool
abbrev pub GainsBy : PoolList → Answer → PoolList → Type 0
GainsBy p (Stepped (Ok reply)) p' = (given : Given) × IsGivenBy reply given × Gains p given p'
GainsBy p answer p' = KeepsFrames p p'

-- It is done, and what the answer gives comes into the pools; or memory is wanting and nothing has changed.
abbrev pub Fulfils : {S : Type 0} → (S → Answer → S → Type 0) → S → PoolList → Result Answer WorldFault → S → PoolList → Type 0
Fulfils Done s p (Ok answer) s' p' = Done s answer s' × GainsBy p answer p'
Fulfils Done s p (Err fault.OutOfMemory) s' p' = (s' ≡ s) × KeepsFrames p p'
Fulfils Done s p (Err e) s' p' = ⊥
