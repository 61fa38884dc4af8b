use Rattle.std.proofs.Common.{cond, Some, ap, ◌∙◌}
use Rattle.mr_compare.proofs.Names.{name_eq, told_last}
use Rattle.mr_compare.proofs.LeftLemmas.{changed_more}
use Rattle.mr_compare.proofs.left.changed_in.Goals as goal

pub loop-entry-preserved : goal.loop-entry-preserved
loop-entry-preserved c =
    changed_more c.loop-entry.changed.entries c.insert.new.self.entries c.args.entries.now c.loop-entry.entry-index c.entry-item.result c.in_ok-newest.newest c.loop-entry-test.true c.entry-item.is (λ q. c.in_ok-insert.ensures.updates.0 q ∙ ap (λ n. cond (name_eq n q) (Some c.in_ok-newest.newest) (told_last c.loop-entry.changed.entries q)) c.item.ensures) c.in_ok-newest.ensures c.loop-entry.invariant
