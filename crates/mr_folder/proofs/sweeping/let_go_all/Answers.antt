use Rattle.std.proofs.Common.{slice_index_or, [], refl, arith}
use Rattle.mr_folder.proofs.SweepLemmas.{sweeps_on, one_gone}
use Rattle.mr_folder.proofs.sweeping.let_go_all.Goals as goal

pub loop-digest-preserved : goal.loop-digest-preserved
loop-digest-preserved g c = record {
  only = λ told. sweeps_on c.args.held.now (c.loop-digest.invariant.only told) (c.let_go.ensures.only told);
  gone = λ told. one_gone c.args.held.now c.args.digests.now c.loop-digest.digest-index (slice_index_or c.args.digests.now c.loop-digest.digest-index []) []
      (g.F.FileTree.seen c.loop-digest.files) (g.F.FileTree.seen c.let_go.new.files) refl (let lt = c.loop-digest-test.true in omega arith)
      (c.loop-digest.invariant.gone told) (c.in_ok-let_go.ensures.gone told) ((c.let_go.ensures.only told).files);
}
