-- a handle before it is opened, and with the device that it got
use Rattle.std.specs.Prelude.{◌≡◌, Option, Some, None, Result, Ok, Err}
use Rattle.mr_desk.specs.declared.device.Device.{Device}
use Rattle.mr_desk.specs.declared.fault.Fault.TheVariants.{OutOfMemory}
use Rattle.mr_c.specs.declared.failure.Failure.{Failure}
use Rattle.mr_c.specs.declared.failure.Failure.TheVariants.{InUse, Desk}

-- An open handle is refused. It stays as it is, and so does a closed one.
abbrev pub ClosedOnly : Option Device → Result (Unit {0}) Failure → Option Device → Type 0
ClosedOnly None (Ok done) new = new ≡ None
ClosedOnly (Some s) (Err failure) new = (failure ≡ InUse) × (new ≡ Some s)
ClosedOnly old answer new = ⊥

-- A closed handle has the device then, or stays closed, where there is no memory for it.
abbrev pub Installed : Device → Result (Unit {0}) Failure → Option Device → Type 0
Installed device (Ok done) new = new ≡ Some device
Installed device (Err failure) new = (new ≡ None) × (failure ≡ Desk OutOfMemory)
