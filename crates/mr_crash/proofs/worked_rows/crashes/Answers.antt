use Rattle.std.proofs.Common.{refl, ◌++◌, inl}
use Rattle.mr_model.proofs.RowsHold.{is_run_by_test}
use Rattle.mr_crash.specs.Frames.{Frame.RecordFrame}
use Rattle.mr_crash.specs.Rows.{created, versions_lost, versions_left, stream_begun, others_sync, frames_lost, record_taken}
use Rattle.mr_crash.proofs.RowsHold.{versions-nobody, goes_on-with_crash, frames-nobody, lost_record, not_kept}
use Rattle.mr_crash.proofs.worked_rows.crashes.Goals as goal

pub returns : goal.returns
returns c = record {
  loses_versions = record {
    leaves = record { runs = is_run_by_test (created ++ versions_lost) refl; nobody = versions-nobody; left_is = refl; left_run = is_run_by_test (created ++ versions_left) refl };
    heads_whole = refl;
    heads_left = refl;
    heads_other = refl;
    with_crash = goes_on-with_crash;
    heads_later = refl;
  };
  loses_frames = record {
    leaves = record { runs = is_run_by_test (stream_begun ++ frames_lost) refl; nobody = frames-nobody; left_is = refl; left_run = is_run_by_test (stream_begun ++ others_sync 2 2) refl };
  };
  is_no_crash = record { runs = is_run_by_test (stream_begun ++ record_taken) refl; taken = λ h. not_kept (h.1.0 refl (RecordFrame lost_record) (inl refl)) };
}
