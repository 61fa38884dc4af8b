use Rattle.mr_compare.proofs.LeftLemmas.{put_added, put_dropped}
use Rattle.mr_compare.proofs.left.note.Goals as goal

pub returns-in_ok-insert-in-Added : goal.returns-in_ok-insert-in-Added
returns-in_ok-insert-in-Added c =
    put_added c.args.cards.now.entries c.insert.new.self.entries c.in-Added.item c.in-Added.version c.in-Added.card c.in_ok-copy-in-Added.field-0 c.args.entry.now c.in-Added.is c.in_ok-copy-in-Added.ensures c.in_ok-insert-in-Added.ensures.updates.0

pub returns-in-Dropped : goal.returns-in-Dropped
returns-in-Dropped c = put_dropped c.args.cards.now.entries c.remove.new.self.entries c.in-Dropped.item c.in-Dropped.version c.args.entry.now c.in-Dropped.is c.remove.ensures.updates.0
