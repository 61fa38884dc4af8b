use Rattle.std.proofs.Common.{map}
use Rattle.mr_store.specs.Revisions.{version_of}
use Rattle.mr_session.proofs.GrowLemmas.{fits_whole}
use Rattle.mr_session.proofs.GrowingLemmas.{cut_of_one}
use Rattle.mr_session.proofs.held.held_vectors.Goals as goal

pub returns-in-Some : goal.returns-in-Some
returns-in-Some c =
    let names = map version_of c.args.revisions.now in
    let is = rw c.in-Some.is at c.in_ok-vector.ensures in
    cut_of_one (λ queue. queue.items) c.queue_of.result names c.in-Some.vector c.queue_of.ensures (fits_whole names c.in-Some.vector c.requires is)
