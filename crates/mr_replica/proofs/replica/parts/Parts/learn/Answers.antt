use Rattle.std.proofs.Common.{refl, ap, ◌∙◌}
use Rattle.mr_replica.specs.inner.Taking.{below_told}
use Rattle.mr_replica.proofs.replica.parts.Parts.learn.Goals as goal

-- what it tells is learned, and the session has taken it
pub returns : goal.returns
returns g c =
    let below = c.told_below-below.ensures.is ∙ ap below_told c.body.ensures in
    let same = c.in_ok-reserve_taken.ensures.same in
    let learned = c.learn.ensures in
    record {
      known = rw below at c.in-Ok.ensures.ok;
      has = record {
        is = rw (learned.heads, learned.push_outs, learned.trail, learned.feed, learned.push_out_feed, learned.log, same.heads, same.push_outs, same.trail, same.feed, same.push_out_feed, same.log, below, c.in-Ok-take.ensures.ok) refl;
        room = rw learned.log_room c.in_ok-reserve_taken.ensures.log;
      };
    }
