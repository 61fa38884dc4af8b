use Rattle.mr_store.proofs.revision_list.RevisionList.revision.Goals as goal

pub revision_of-requires : goal.revision_of-requires
revision_of-requires c = rw c.as_slice.ensures c.self.invariant.in_order

pub returns : goal.returns
returns c = rw (← c.self.view_is) (rw c.as_slice.ensures at c.revision_of.ensures)
