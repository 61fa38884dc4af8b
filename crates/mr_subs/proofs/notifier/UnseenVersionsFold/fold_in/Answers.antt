use Rattle.std.proofs.Common.{◌∙◌, sym, true, false}
use Rattle.mr_subs.proofs.UnseenLemmas.{ListsUnseen-entry}
use Rattle.mr_subs.proofs.notifier.UnseenVersionsFold.fold_in.Goals as goal

pub returns-in_ok-insert-clause-ok : goal.returns-in_ok-insert-clause-ok
returns-in_ok-insert-clause-ok c =
    rw (← c.self.view_is) (ListsUnseen-entry c.self.inside.versions.keys c.insert.new.self.keys c.args.entry.now c.version.result true c.version.ensures (sym c.adds_unseen.ensures ∙ c.if-adds_unseen.true) c.in_ok-insert.ensures.updates.0)

pub returns-else-adds_unseen-clause-ok : goal.returns-else-adds_unseen-clause-ok
returns-else-adds_unseen-clause-ok c =
    rw (← c.self.view_is) (ListsUnseen-entry c.self.inside.versions.keys c.remove.new.self.keys c.args.entry.now c.version-else-adds_unseen.result false c.version-else-adds_unseen.ensures (sym c.adds_unseen.ensures ∙ c.if-adds_unseen.false) c.remove.ensures.updates.0)
