use Rattle.mr_itemset.proofs.OnlyLemmas.{only_same}
use Rattle.mr_itemset.proofs.pending.only_version.Goals as goal

pub returns-in-Ok : goal.returns-in-Ok
returns-in-Ok g c =
    only_same (g.S.Source.has c.args.source.now) c.in_ok-author.author c.in_ok-counter.counter c.next_out-end.ensures.zero c.in_ok-author.ensures c.in_ok-counter.ensures.next c.in_default.ensures.next
    (rw c.id.ensures.is at c.in_default-next_author.ensures) c.in-Ok.version c.in-Ok.ensures.ok.0 c.in-Ok.ensures.ok.1
