use Rattle.std.proofs.Common.{◌≡◌, None, Err, subst}
use Rattle.mr_desk.proofs.Names.{IsMergeIn, Normal, Reads, State, err_from_is_err_and, merge_fault_in}
use Rattle.mr_desk.proofs.KeptLemmas.{untaken-merge}
use Rattle.mr_desk.proofs.ReadingLemmas.{merges-kept-unread}
use Rattle.mr_desk.proofs.kept.merge.Goals as goal

pub returns-in_err-event : goal.returns-in_err-event
returns-in_err-event c =
    let p = err_from_is_err_and c.from_residual.result c.from_residual.ensures.1 in
    let reads = subst (λ (s : State Normal). Reads (Unit {0}) (merge_fault_in s c.args.item) (IsMergeIn s c.args.item) (Err c.in_err-event.field-0.0)) c.in-Some.ensures.1 c.in_err-event.ensures in
    rw (p.1, p.2) (merges-kept-unread c.args.kept.now c.args.item c.in_err-event.field-0.0 c.in-Some.ensures.0 reads)

pub returns-in-Ok : goal.returns-in-Ok
returns-in-Ok c =
    let meant = subst (λ (s : State Normal). (merge_fault_in s c.args.item ≡ None) × IsMergeIn s c.args.item c.in_ok-event.event) c.in-Some.ensures.1 c.in_ok-event.ensures in
    (c.in-Some.ensures.0, (meant.0, c.in_ok-event.event, meant.1, c.in-Ok.ensures))

pub returns-in-Err : goal.returns-in-Err
returns-in-Err c =
    let meant = subst (λ (s : State Normal). (merge_fault_in s c.args.item ≡ None) × IsMergeIn s c.args.item c.in_ok-event.event) c.in-Some.ensures.1 c.in_ok-event.ensures in
    rw c.from.ensures (untaken-merge c.args.kept.now c.tell.new.kept c.args.item c.in_ok-event.event c.in-Err.fault c.in-Some.ensures.0 meant c.in-Err.ensures)
