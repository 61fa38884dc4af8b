use Rattle.mr_store.specs.inner.Index.{listed_for}
use Rattle.mr_store.proofs.ListedLemmas.{are_conflicts}
use Rattle.mr_store.proofs.revision_list.RevisionList.conflicts.Goals as goal

pub returns : goal.returns
returns c =
    rw (← c.self.view_is)
    (are_conflicts (λ v. v.items) c.items_with_several.result (listed_for c.self.inside.index) c.self.inside.room c.self.inside.revisions.items c.self.invariant.in_order c.self.invariant.indexed c.items_with_several.ensures.rising c.items_with_several.ensures.exact)
