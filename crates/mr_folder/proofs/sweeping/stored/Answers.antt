use Rattle.std.proofs.Common.{IsTrue, map, string_bytes}
use Rattle.mr_folder.proofs.Names.{is_some, stored_path}
use Rattle.mr_folder.proofs.HeldLemmas.{digests_tell}
use Rattle.mr_folder.proofs.sweeping.stored.Goals as goal

pub returns-clause-digests : goal.returns-clause-digests
returns-clause-digests g c = λ told digest is.
    digests_tell (map (λ s. string_bytes s) c.in_ok-names.names.items) c.in_ok-stored.stored.digests.items c.in_ok-stored.ensures.digests digest is (IsTrue (is_some (g.F.FileTree.seen c.args.files.now (stored_path digest)))) (c.in_ok-names.ensures.names told digest is)
