use Rattle.std.proofs.Common.{refl}
use Rattle.mr_threads.proofs.Serving.{ran_short}
use Rattle.mr_threads.proofs.core_loop.run.Goals as goal

pub returns-in-Err-clause-short : goal.returns-in-Err-clause-short
returns-in-Err-clause-short g c = λ short.
    ran_short g.M.Machine.steps g.M.Machine.feed_of c.args.core.now c.serve.new.core
    (record { machine = c.serve.new.core.machine; desk = c.drop_rest.new.desk; replies = c.close_replies-in-Err.new.replies; feeds = c.close_feeds-in-Err.new.feeds })
    c.drop_rest.ensures.behind.0 c.in-Err.ensures.short refl c.close_replies-in-Err.ensures c.close_feeds-in-Err.ensures c.drop_rest.ensures.behind.1
