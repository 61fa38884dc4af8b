-- a version that is not held is not among what stays
use Rattle.std.proofs.Common.{◌≡◌, ◌++◌, not, List, None}
use Rattle.mr_replica.proofs.Names.{Name, Rev, Versions, filter-append, left_by, named-filter, revision_of, supersedes, version_of}

pub stays_new : (item : Name) (below : Versions) (heads push_outs : List Rev) (v : Name) → revision_of (heads ++ push_outs) v ≡ None → revision_of (left_by item below heads ++ left_by item below push_outs) v ≡ None
stays_new item below heads push_outs v new =
    let stays = λ (r : Rev). not (supersedes item below r) in
    rw (← filter-append stays heads push_outs) (named-filter version_of stays v (heads ++ push_outs) new)
