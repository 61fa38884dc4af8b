use Rattle.std.proofs.Common.{◌≡◌, List}
use Rattle.mr_feed.specs.declared.entry.Entry.{Entry}
use Rattle.mr_threads.specs.Listening.{HasHeard}
use Rattle.mr_threads.proofs.listener.listen.Given as goal

abbrev pub invariant-loop : goal.invariant-loop
invariant-loop g l = record {
  heard : (entries : List Entry) × HasHeard g.F.Fold.shows entries l.listener;
  id : l.listener.tap.id ≡ l.fn.listener.tap.id;
}
