use Rattle.std.proofs.Common.{◌-◌, ap, ◌∙◌, arith}
use Rattle.mr_madewith.specs.Revision.{Rev}
use Rattle.mr_session.proofs.held_runs.first_run.Goals as goal

pub run_to-requires : goal.run_to-requires
run_to-requires c =
    c.version-last.ensures
    ∙ (ap (λ (r : Rev). r.version) c.index-revisions-by.is
    ∙ c.row_length-length.ensures.row (c.row_length-length.result - 1) c.index-revisions-by.result (omega (arith, c.row_length-length.ensures.some)))
