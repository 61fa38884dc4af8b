use Rattle.std.proofs.Common.{sym, arith}
use Rattle.mr_folder.proofs.Moments.{untouched_still}
use Rattle.mr_folder.proofs.ShowLemmas.{untouched_on}
use Rattle.mr_sync.proofs.VouchLaws.{answers_more}
use Rattle.mr_sync.proofs.vouching.answers.Goals as goal

pub loop-head-init : goal.loop-head-init
loop-head-init g c = λ told. record {
  found = λ k d lt. absurd (omega arith);
  untouched = untouched_still _ (g.met.F.FileTree.only_now _);
}

pub loop-head-preserved : goal.loop-head-preserved
loop-head-preserved g c = λ told.
    let before = c.loop-head.invariant told in
    record {
      found = answers_more c.args.heads.now c.args.waiting.now _ _ c.head-item.result (c.push_answer.ensures.untouched told) (c.loop-head.head-index, c.loop-head-test.true, sym c.head-item.is) before.found (c.in_ok-push_answer.ensures.one told);
      untouched = untouched_on before.untouched (c.push_answer.ensures.untouched told);
    }

pub returns-in_err-push_answer-clause-untouched : goal.returns-in_err-push_answer-clause-untouched
returns-in_err-push_answer-clause-untouched g c = λ told. untouched_on (c.loop-head.invariant told).untouched (c.push_answer.ensures.untouched told)
