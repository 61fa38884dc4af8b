use Rattle.mr_threads.specs.Core.{TellsPart}
use Rattle.mr_threads.proofs.Saying.{holds_on_err}
use Rattle.mr_threads.proofs.Serving.{told_before}
use Rattle.mr_threads.proofs.core_loop.tell.Goals as goal

pub returns-in_err-other-clause-err : goal.returns-in_err-other-clause-err
returns-in_err-other-clause-err g c =
    holds_on_err c.from_residual.result (TellsPart c.args.feeds.now c.args.entries.now c.loop-entry.feeds)
    (told_before c.args.feeds.now c.loop-entry.feeds c.args.entries.now c.loop-entry.entry-index c.entry-item.result c.loop-entry-test.true c.entry-item.is c.loop-entry.invariant.0 c.loop-entry.invariant.1)

pub returns-in_err-copy-clause-err : goal.returns-in_err-copy-clause-err
returns-in_err-copy-clause-err g c =
    holds_on_err c.from_residual-in_err-copy.result (TellsPart c.args.feeds.now c.args.entries.now c.loop-entry.feeds)
    (told_before c.args.feeds.now c.loop-entry.feeds c.args.entries.now c.loop-entry.entry-index c.entry-item.result c.loop-entry-test.true c.entry-item.is c.loop-entry.invariant.0 c.loop-entry.invariant.1)
