-- A handle may go to another thread, since its device may.
use Prim.Native.Nat.{ℕ, zero, suc}
use mir.Raw.{raw}
use base.Shift.{Keyless}
use base.Fraction.{full_share}
use denote.Exit.{Exit, unchanged, leaves, hidden, under}
use denote.RattleType.{RattleType}
use denote.Memory.{lone}
use denote.RawPtr.{Ptr, block_ptr, null_ptr, lies_at}
use denote.Struct.Struct.{exits_of}
use denote.Struct.Owning.{shape, fields, to}
use denote.Param.Send.{IsSend, Quiet, AllSend, part_keyless, owning_send, struct_send, sendable}
use Rattle.std.specs.Prelude.{Option}
use Rattle.std.proofs.Crossing as crossing
use Rattle.mr_c.specs.Held.{held, heap}
use Rattle.mr_desk.specs.contracts.device.Device as device
use Rattle.mr_desk.proofs.device.Device.TheSendSync as sent
use Rattle.mr_c.specs.contracts.handle.Handle.{the_row, the_type}

quiet : {D X : Type 0} (to : D → X) (e : Exit X) → Quiet e → Quiet (hidden (under to e))
quiet to unchanged q = λ x w. tt
quiet to (leaves L l S s r₀) q = λ d. q (to d)

lies : (R : RattleType) → IsSend R → (p : Ptr) (x : R.Denot) → Keyless (lies_at R full_share p x)
lies R s (block_ptr b o) x = part_keyless R s full_share x b o
lies R s null_ptr x = tt

held_keyless : (p : Ptr) (n : ℕ) (d : Option (device.the_row).Denot) → Keyless (held device.the_row p n d)
held_keyless p zero d = tt
held_keyless p (suc n) d = λ x. (tt, (lies device.the_row sent.the_send p x, crossing.frees.frees heap (raw (lone (device.the_row).mir)) p))

pub send : IsSend the_row
send =
    let all : AllSend (fields the_type) = (search sendable, (search sendable, tt)) in
    owning_send the_type all (λ d. held_keyless d.at d.live d.device) (λ k. quiet (to the_type) (exits_of k (fields the_type)) ((struct_send (shape the_type) all).leaving k))
