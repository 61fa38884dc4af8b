use Rattle.std.proofs.Common.{sym, ◌∙◌}
use Rattle.mr_store.proofs.IndexLemmas.{on_ok, index-enlisted}
use Rattle.mr_store.proofs.index.enlist_for.Goals as goal

pub returns-clause-ok : goal.returns-clause-ok
returns-clause-ok c =
    on_ok c.enlist.result _ _
    (λ lists. index-enlisted c.args.index.now c.enlist.new.index c.args.room.now c.args.revisions.now c.first_of.result.now lists c.requires.absent (sym c.is_for_first.ensures ∙ c.if-is_for_first.false) c.first_of.ensures c.requires.indexed)
    c.enlist.ensures.ok

pub returns-clause-room : goal.returns-clause-room
returns-clause-room c = on_ok c.enlist.result _ _ (λ has. has c.args.room.now.version) c.enlist.ensures.room
