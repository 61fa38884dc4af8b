use Rattle.std.proofs.Common.{◌≡◌, ◌∷◌, ◌∙◌, [], ap}
use Rattle.mr_kept.proofs.Names.{KeptFault, OutOfMemory, contents}
use Rattle.mr_kept.proofs.EntryLemmas.{contents_append}
use Rattle.mr_kept.proofs.RunLemmas.{none_put, run_put}
use Rattle.mr_kept.proofs.RoomLemmas.{err_by, run_fault}
use Rattle.mr_kept.proofs.batch.end_run.Goals as goal

pub returns-then-batch-eq0-clause-put : goal.returns-then-batch-eq0-clause-put
returns-then-batch-eq0-clause-put c = none_put c.args.batch.now.stream c.args.batch.now.nexts (contents c.args.batch.now.entries.items) c.if-batch-eq0.true

pub returns-clause-put : goal.returns-clause-put
returns-clause-put c =
    let old = c.args.batch.now in
    let bytes = c.in_ok-entry.entry in
    run_put old.stream old.nexts (contents old.entries.items) (contents c.push.new.self.items) bytes.items c.if-batch-eq0.false c.in_ok-entry.ensures (ap contents c.in_ok-push.ensures.items ∙ contents_append old.entries.items (bytes ∷ []))

pub returns-in_err-entry-clause-fault : goal.returns-in_err-entry-clause-fault
returns-in_err-entry-clause-fault c =
    err_by (λ (fault : KeptFault). fault ≡ OutOfMemory) c.from_residual.result _ c.from_residual.ensures.1 (run_fault c.args.batch.now.stream c.args.batch.now.nexts c.in_err-entry.field-0.0 c.in_err-entry.ensures)
