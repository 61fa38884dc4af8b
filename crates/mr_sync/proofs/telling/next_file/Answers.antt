use Rattle.mr_folder.proofs.Moments.{untouched_still}
use Rattle.mr_folder.proofs.ShowLemmas.{untouched_on}
use Rattle.mr_sync.proofs.telling.next_file.Goals as goal

pub loop-init : goal.loop-init
loop-init g c = λ told. untouched_still _ (g.met.F.FileTree.only_now _)

pub returns-in_err-message-clause-untouched : goal.returns-in_err-message-clause-untouched
returns-in_err-message-clause-untouched g c = λ told. untouched_on (c.loop.invariant told) (c.open_file.ensures.untouched told)
