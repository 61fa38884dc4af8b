-- what is not taken, and what a receipt came to
use Rattle.std.specs.Prelude.{◌≡◌, ◌≢◌, ℕ, Bool, true, false, Result, Ok, Err}
use Rattle.mr_itemset.specs.Normal.{Normal}
use Rattle.mr_kept.specs.declared.fault.KeptFault.{KeptFault}
use Rattle.mr_kept.specs.declared.fault.KeptFault.TheVariants.{Refused}
use Rattle.mr_replica.specs.State.{State}
use Rattle.mr_replica.specs.declared.refusal.Refusal.TheVariants.{NotPushedOut}
use Rattle.mr_wire.specs.declared.frame.Frame.{Frame}
use Rattle.mr_wire.specs.declared.frame.Frame.TheVariants as frame
use Rattle.mr_wire.specs.declared.frame.Receipt.{Receipt}
use Rattle.mr_sync.specs.Taken.{LetsGo}
use Rattle.mr_sync.specs.declared.fault.SyncFault.{SyncFault}
use Rattle.mr_sync.specs.declared.fault.SyncFault.TheVariants.{Kept, OtherFrame, OtherSide}

-- why a frame is no record that this source gave
abbrev pub IsNoRecordOf : ℕ → Frame → SyncFault → Type 0
IsNoRecordOf source (frame.Record sent) fault = (fault ≡ OtherSide) × (sent.header.source ≢ source)
IsNoRecordOf source f fault = fault ≡ OtherFrame

-- why a frame is no receipt that this replica gave
abbrev pub IsNoReceiptOf : ℕ → Frame → SyncFault → Type 0
IsNoReceiptOf giver (frame.Receipt r) fault = (fault ≡ OtherSide) × (r.giver ≢ giver)
IsNoReceiptOf giver f fault = fault ≡ OtherFrame

-- why a frame is no request of this side
abbrev pub IsNoAskOf : ℕ → Frame → SyncFault → Type 0
IsNoAskOf target (frame.Ask q) fault = (fault ≡ OtherSide) × (q.target ≢ target)
IsNoAskOf target f fault = fault ≡ OtherFrame

-- whether a receipt was for something, by what the replica answered to it; any other fault is handed on
abbrev pub was_there : Result (Unit {0}) KeptFault → Result Bool SyncFault
was_there (Ok _) = Ok true
was_there (Err (Refused NotPushedOut)) = Ok false
was_there (Err fault) = Err (Kept fault)

-- the frame is a receipt of this giver, and lets go of what it is for
pub record ReleasesOne (giver : ℕ) (old : State Normal) (f : Frame) (new : State Normal) : Type 0 where
  pub receipt : Receipt
  pub is : f ≡ frame.Receipt receipt
  pub given : receipt.giver ≡ giver
  pub released : LetsGo old receipt new
