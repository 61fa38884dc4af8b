-- the numbers by which a host knows faults
use Rattle.std.specs.Prelude.{ℕ}
use Rattle.mr_lane.specs.declared.fault.SendFault.{SendFault}
use Rattle.mr_lane.specs.declared.fault.SendFault.TheVariants as send
use Rattle.mr_lane.specs.declared.fault.FinishFault.{FinishFault}
use Rattle.mr_lane.specs.declared.fault.FinishFault.TheVariants as finish
use Rattle.mr_lane.specs.declared.fault.LaneFault.{LaneFault}
use Rattle.mr_lane.specs.declared.fault.LaneFault.TheVariants as lane

abbrev pub send_number : {T : Type 0} → SendFault T → ℕ
send_number (send.Full item) = 1
send_number (send.Ended item) = 2

abbrev pub finish_number : FinishFault → ℕ
finish_number finish.Full = 1

abbrev pub lane_number : LaneFault → ℕ
lane_number lane.OutOfMemory = 0
lane_number lane.NoCapacity = 4
