-- what a handle owns: a box while it is live, and nothing while it is closed
use Rattle.std.specs.Prelude.{ℕ, zero, suc, Option, Some, None}
use base.Fml.{Fml, feq, fsep, fex}
use denote.RattleType.{RattleType}
use denote.RawPtr.{Ptr}
use Rattle.std.specs.Box.Ownership.{box_owns}
use Rattle.std.specs.declared.alloc.Global.{Global}
use Rattle.std.specs.contracts.impls.GlobalAllocator.TheImpl.{ghosts}

abbrev pub heap : Global
heap = record { memory = record { seal = tt } }

module _ (R : RattleType) (p : Ptr) where
  abbrev pub boxed : Option R.Denot → R.Denot → Fml
  boxed d x = fsep (feq (Option R.Denot) d (Some x)) (box_owns (ghosts.dealloc_token heap) R p x)

  abbrev pub held : ℕ → Option R.Denot → Fml
  held zero d = feq (Option R.Denot) d None
  held (suc n) d = fex R.Denot (boxed d)
