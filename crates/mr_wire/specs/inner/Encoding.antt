-- the start of a frame as it is written
use Rattle.std.specs.Prelude.{◌≡◌, ◌≤◌, ◌<◌, ◌+◌, ◌++◌, ℕ, [], ◌∷◌, Result, Ok, Err}
use Rattle.std.specs.Global.{Vec}
use Rattle.mr_wire.specs.declared.decoding.TheConstants.{MAX_REST_BYTES}
use Rattle.mr_wire.specs.declared.fault.WireFault.{WireFault}
use Rattle.mr_wire.specs.declared.fault.WireFault.TheVariants.{OutOfMemory, TooLong}
use Rattle.mr_wire.specs.declared.kind.Kind.{Kind}
use Rattle.mr_wire.specs.Kinds.{kind_byte}
use Rattle.mr_wire.specs.Spelling.{u32}

-- The start of a frame is its length, format and kind, where so many bytes come behind the kind; or they would be too many. Memory runs out only where they aren't.
abbrev pub Begins : Kind → ℕ → Result (Vec ℕ) WireFault → Type 0
Begins kind parts (Ok v) = (v.items ≡ u32 (parts + 2) ++ (2 ∷ kind_byte kind ∷ [])) × (parts + 2 ≤ MAX_REST_BYTES)
Begins kind parts (Err TooLong) = MAX_REST_BYTES < parts + 2
Begins kind parts (Err OutOfMemory) = parts + 2 ≤ MAX_REST_BYTES
Begins kind parts (Err fault) = ⊥
