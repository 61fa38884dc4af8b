use Rattle.std.proofs.Common.{◌∙◌}
use Rattle.mr_kept.specs.Kept.{leaving, replica_of}
use Rattle.mr_sync.proofs.AskLaws.{pull_told}
use Rattle.mr_sync.proofs.asking.pull_frame.Goals as goal

pub returns-clause-pulled : goal.returns-clause-pulled
returns-clause-pulled g c =
    let h = c.in_ok-pull.ensures.later in
    pull_told (replica_of c.args.kept.now) (replica_of c.pull.new.self) (replica_of c.commit.new.self) h.0 h.1.1 c.deref-2.result.now (leaving c.args.kept.now)
    (c.deref-2.ensures.value ∙ c.in_ok-replies.ensures.committed.handed_out ∙ h.2) c.commit.ensures.replica c.last_ask.result c.last_ask.ensures
