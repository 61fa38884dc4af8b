-- What the worked crashes rest on.
use Rattle.std.proofs.Common.{refl, ◌++◌, arith}
use Rattle.mr_model.specs.History.{Body.Item, Record, Reply.Issued}
use Rattle.mr_model.specs.declared.event.Act.TheVariants.{Create}
use Rattle.mr_model.specs.Changes.{now}
use Rattle.mr_model.specs.Rules.{In}
use Rattle.mr_model.specs.Rows.{archive, row_setting, ◌•◌, ◌does◌gives◌}
use Rattle.mr_model.proofs.RowsHold.{is_run_by_test}
use Rattle.mr_crash.specs.Frames.{Frame.RecordFrame, frames}
use Rattle.mr_crash.specs.Crash.{NobodyTook, IsWithCrashes, IsWithCrashes.OneMore, IsWithCrashes.Crash}
use Rattle.mr_crash.proofs.Theorem.{no_crash}
use Rattle.mr_crash.specs.Rows.{created, versions_lost, versions_left, goes_on, stream_begun, frames_lost}

pub versions-nobody : NobodyTook row_setting created versions_lost 0
versions-nobody = grind arith

pub goes_on-with_crash : IsWithCrashes row_setting goes_on
goes_on-with_crash = OneMore (created ++ versions_left) (0 does Create archive gives Issued (0 • 2))
    (Crash created versions_lost versions_left 0 (no_crash row_setting (created ++ versions_lost) (is_run_by_test (created ++ versions_lost) refl)) versions-nobody refl)
    (is_run_by_test goes_on refl).1.1.0

pub frames-nobody : NobodyTook row_setting stream_begun frames_lost 0
frames-nobody = grind arith

-- the record that 0 lost
abbrev pub lost_record : Record
lost_record = record { source = 0; stream = 1; target = 1; session = 1; index = 1; body = Item (0 • 1) }

pub not_kept : ¬ In (RecordFrame lost_record) (frames (now row_setting stream_begun))
not_kept i = grind (arith, i)
