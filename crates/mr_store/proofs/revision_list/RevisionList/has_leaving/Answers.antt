use Rattle.mr_store.specs.Leaving.{leaves}
use Rattle.mr_store.proofs.RevisionLemmas.{any-versions_of}
use Rattle.mr_store.proofs.revision_list.RevisionList.has_leaving.Goals as goal

pub returns : goal.returns
returns c = rw (← any-versions_of (leaves c.args.ones.now c.args.below.now) c.args.item c.args.self.now.revisions) (rw (← c.versions_of.ensures) c.some_leave.ensures)
