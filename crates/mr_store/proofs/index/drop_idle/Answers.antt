use Rattle.std.proofs.Common.{sym, ◌∙◌}
use Rattle.mr_store.proofs.IndexLemmas.{listed-removed, listed-needed}
use Rattle.mr_store.proofs.index.drop_idle.Goals as goal

pub returns-then-is_idle-clause-lists : goal.returns-then-is_idle-clause-lists
returns-then-is_idle-clause-lists c = listed-removed c.args.index.now c.remove.new.self c.args.item c.args.room c.remove.ensures.updates.0 (sym c.is_idle.ensures ∙ c.if-is_idle.true)

pub returns-else-is_idle-clause-lists : goal.returns-else-is_idle-clause-lists
returns-else-is_idle-clause-lists c = listed-needed c.args.index.now c.args.item c.args.room (sym c.is_idle.ensures ∙ c.if-is_idle.false)
