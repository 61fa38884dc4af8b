use Rattle.std.proofs.Common.{inr}
use Rattle.mr_sync.proofs.ListedLaws.{listed_now, needs_one}
use Rattle.mr_sync.proofs.records.note_file.Goals as goal

pub returns-clause-named : goal.returns-clause-named
returns-clause-named g c = λ told.
    needs_one (g.F.FileTree.seen c.has_file.new.files) c.list.new.lacking.keys c.args.frame.now c.in-Some.file.digest c.in-Some.ensures
    (inr (listed_now c.in-Some.file.digest c.args.lacking.now.keys c.list.new.lacking.keys c.in_ok-list.ensures))
