use Rattle.std.proofs.Common.{rules, ◌≡◌, true}
use Rattle.mr_threads.specs.inner.Running.{are_all_whole}
use Rattle.mr_threads.proofs.WholeRun.{all_whole, settled_ran}
use Rattle.mr_threads.proofs.settling_ends.settle_ends.Goals as goal

pub returns-clause-ran : goal.returns-clause-ran
returns-clause-ran g c = λ roles parts fits new ran.
    let e : are_all_whole c.args.ends ≡ true = search rules in
    let whole = all_whole c.args.ends e in
    settled_ran g.M.Machine.steps g.M.Machine.feed_of g.S.Speaker.speaks g.P.Speaker.speaks g.Q.Speaker.speaks g.F.Fold.shows g.G.Fold.shows
    c.args.capacity roles parts c.args.ends c.in_ok-machine.machine
    (record { user = c.apart-user.result.1; first_link = c.apart-first_link.result.1; second_link = c.apart-second_link.result.1 })
    (record { user = c.apart-user.result.2; first_link = c.apart-first_link.result.2; second_link = c.apart-second_link.result.2 })
    (record { indexer = c.heard-indexer.result.1; notifier = c.heard-notifier.result.1 })
    (record { machine = c.in_ok-machine.machine; user = c.apart-user.result.0; first_link = c.apart-first_link.result.0; second_link = c.apart-second_link.result.0; indexer = c.heard-indexer.result.0; notifier = c.heard-notifier.result.0; capacity = c.args.capacity })
    (λ i. record { user = c.apart-user.ensures.post i; first_link = c.apart-first_link.ensures.post i; second_link = c.apart-second_link.ensures.post i })
    (λ i. record { user = c.apart-user.ensures.tap i; first_link = c.apart-first_link.ensures.tap i; second_link = c.apart-second_link.ensures.tap i })
    (λ i. record { indexer = c.heard-indexer.ensures.tap i; notifier = c.heard-notifier.ensures.tap i })
    (λ i. record { machine = c.in_ok-machine.machine; user = c.apart-user.ensures.spoken i; first_link = c.apart-first_link.ensures.spoken i; second_link = c.apart-second_link.ensures.spoken i; indexer = c.heard-indexer.ensures.heard i; notifier = c.heard-notifier.ensures.heard i; capacity = c.args.capacity })
    fits ran whole
    (c.in_ok-machine.ensures.interleaved parts.core new.core (ran.core.ran whole.core))
