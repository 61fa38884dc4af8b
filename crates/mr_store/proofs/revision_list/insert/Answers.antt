use Rattle.std.proofs.Common.{subst, sym}
use Rattle.mr_store.proofs.Names.{AreInVersionOrder, rises-inserted, version_of}
use Rattle.mr_store.proofs.RevisionLemmas.{found_is_there}
use Rattle.mr_store.proofs.revision_list.insert.Goals as goal

pub unreachable-requires : goal.unreachable-requires
unreachable-requires c = found_is_there c.args.revisions.now.items c.args.revision.version c.in-Ok.field-0 (rw (c.as_slice.ensures, c.version.ensures) at c.in-Ok.ensures.found) c.requires.new

pub insert-requires-clause-within : goal.insert-requires-clause-within
insert-requires-clause-within c = rw c.as_slice.ensures at c.in-Err.ensures.absent.within

pub returns-clause-items : goal.returns-clause-items
returns-clause-items c = rw (c.insert.ensures, ← c.as_slice.ensures) (c.in-Err.ensures.absent.put c.args.revision (sym c.version.ensures))

pub returns-clause-in_order : goal.returns-clause-in_order
returns-clause-in_order c =
    subst AreInVersionOrder (sym (returns-clause-items c)) (rises-inserted version_of c.args.revision c.args.revisions.now.items c.requires.new c.requires.in_order)
