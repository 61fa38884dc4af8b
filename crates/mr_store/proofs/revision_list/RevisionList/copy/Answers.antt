use Rattle.std.proofs.Common.{◌∙◌}
use Rattle.mr_store.proofs.CopyLemmas.{list_of_copies}
use Rattle.mr_store.proofs.revision_list.RevisionList.copy.Goals as goal

-- the revisions are the same, and the index is one of them
pub invariant_of-result : goal.invariant_of-result
invariant_of-result c = list_of_copies c.self.inside.revisions c.from_vec.result c.self.inside.index c.in_ok-copied.field-0 c.self.inside.room (c.from_vec.ensures ∙ (c.in_ok-copies.ensures ∙ c.as_slice.ensures)) c.in_ok-copied.ensures c.self.invariant
