use Rattle.std.proofs.Common.{◌++◌, List, map, drop}
use Rattle.mr_session.proofs.Names.{AreCut, AuthorColumn, HasJust, Name, version_of}
use Rattle.mr_session.proofs.held.cut_vectors.Given as goal

-- The vector is that of a front part; with whatever cuts that part and what is left, the vectors cut all.
abbrev pub invariant-loop-revision : goal.invariant-loop-revision
invariant-loop-revision l =
    (front : List Name) × HasJust front l.vector
    × ((vs : List (List AuthorColumn)) → AreCut (front ++ map version_of (drop l.revision-index l.revisions)) vs → AreCut (map version_of l.revisions) (l.vectors.items ++ vs))
