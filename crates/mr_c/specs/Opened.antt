-- what opening a handle does
use Rattle.std.specs.Prelude.{◌≡◌, ℕ, ℤ, List, [], Option, Some, None, Result, Ok, Err}
use Rattle.mr_desk.specs.KeptOpening.{ArePlace, Begun, IsUnbegun, IsUnopened, Reopened, given}
use Rattle.mr_desk.specs.Opening.{Opens}
use Rattle.mr_desk.specs.declared.device.Device.{Device}
use Rattle.mr_desk.specs.declared.device.Device.TheVariants.{Plain, Kept}
use Rattle.mr_desk.specs.declared.fault.Fault.{Fault}
use Rattle.mr_c.specs.Code.{code_of}
use Rattle.mr_c.specs.declared.failure.Failure.{Failure}
use Rattle.mr_c.specs.declared.failure.Failure.TheVariants.{InUse, Desk}

-- a plain device comes of an opening, or why none does
abbrev pub ComesPlain : (id : ℕ) (filter : List ℕ) (limit : ℕ) (log : List ℕ) → Result Device Fault → Type 0
ComesPlain id filter limit log (Ok (Plain s)) = Opens id filter limit log (Ok s)
ComesPlain id filter limit log (Ok other) = ⊥
ComesPlain id filter limit log (Err fault) = Opens id filter limit log (Err fault)

-- a kept one that is begun, and found no note
abbrev pub ComesBegun : (id : ℕ) (filter : List ℕ) (limit : ℕ) (birth mark : List ℕ) → Result Device Fault → Type 0
ComesBegun id filter limit birth mark (Ok (Kept h notes)) = Begun id filter limit birth mark h × (notes.items ≡ [])
ComesBegun id filter limit birth mark (Ok other) = ⊥
ComesBegun id filter limit birth mark (Err fault) = IsUnbegun id filter limit birth mark fault

-- a kept one that is brought back from its file, with the notes that are there
abbrev pub ComesBack : (file mark birth : List ℕ) → Result Device Fault → Type 0
ComesBack file mark birth (Ok (Kept h notes)) = ArePlace mark birth × Reopened file mark (given birth) h notes.items
ComesBack file mark birth (Ok other) = ⊥
ComesBack file mark birth (Err fault) = IsUnopened file mark birth fault

-- An open handle answers so, and stays as it is. A closed one has the device then, or stays closed.
abbrev pub Opened : (Result Device Fault → Type 0) → Option Device → Result (Unit {0}) Failure → Option Device → Type 0
Opened Comes (Some s) answer new = (answer ≡ Err InUse) × (new ≡ Some s)
Opened Comes None (Ok done) (Some n) = Comes (Ok n)
Opened Comes None (Err (Desk fault)) None = Comes (Err fault)
Opened Comes None answer new = ⊥

-- The handle was asked to open, and C sees the number of the answer.
abbrev pub OpensAs : (Result Device Fault → Type 0) → Option Device → Option Device → ℤ → Type 0
OpensAs Comes old new code = (answer : Result (Unit {0}) Failure) × Opened Comes old answer new × (code ≡ code_of answer)
