use Rattle.std.proofs.Common.{not}
use Rattle.mr_store.proofs.Names.{name_eq, rises-filter, version_of}
use Rattle.mr_store.proofs.revision_list.remove.Goals as goal

pub returns-in-Ok-clause-in_order : goal.returns-in-Ok-clause-in_order
returns-in-Ok-clause-in_order c =
    rw (c.remove.ensures.items, ← c.as_slice.ensures, c.in-Ok.ensures.found.out)
    (rises-filter version_of (λ r. not (name_eq r.version c.args.version)) c.as_slice.result.now (rw c.as_slice.ensures c.requires))
