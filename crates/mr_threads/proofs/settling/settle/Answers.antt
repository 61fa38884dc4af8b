use Rattle.mr_threads.proofs.SettlingLaws.{interleaves}
use Rattle.mr_threads.proofs.settling.settle.Goals as goal

pub returns-then-feeds-clause-interleaved : goal.returns-then-feeds-clause-interleaved
returns-then-feeds-clause-interleaved g c = λ old new ran.
    interleaves g.M.Machine.steps g.M.Machine.feed_of old c.args.core c.args.posts c.args.taps c.args.feed_taps new ran
    c.requires.posts.user_sender c.requires.posts.first_sender c.requires.posts.second_sender
    (c.settle_inbox-inbox.ensures.settled c.if-inbox.true) (c.settle_replies-replies.ensures.took_all c.if-replies.true) (c.settle_feeds-feeds.ensures.took_all c.if-feeds.true)
