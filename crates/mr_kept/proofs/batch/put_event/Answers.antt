use Rattle.std.proofs.Common.{◌≡◌, ◌≤◌, ◌^◌, ◌∷◌, ◌∙◌, [], ℕ, ap, subst}
use Rattle.mr_kept.proofs.Names.{IsOfEvent, contents, counted}
use Rattle.mr_kept.proofs.EntryLemmas.{contents_append}
use Rattle.mr_kept.proofs.RunLemmas.{event_more}
use Rattle.mr_kept.proofs.RoomLemmas.{count_over, err_by, event_fault, event_of_memory}
use Rattle.mr_kept.proofs.batch.put_event.Goals as goal

pub returns-clause-put : goal.returns-clause-put
returns-clause-put c = λ issued events so_far.
    let old = c.args.batch.now in
    let ended = c.end_run.new.batch in
    let bytes = c.in_ok-encode_event_entry.field-0 in
    let texts = ap contents c.in_ok-push.ensures.items ∙ contents_append ended.entries.items (bytes ∷ []) in
    event_more issued events (contents old.entries.items) (contents ended.entries.items) (contents c.push.new.self.items) old.issued ended.issued old.stream old.nexts c.args.event.now c.in-Some.issued bytes.items ended.stream ended.nexts
    c.in_default.not-Next so_far c.in_ok-end_run.ensures.put c.in_ok-end_run.ensures.issued c.in_ok-end_run.ensures.ended c.in-Some.ensures c.in_ok-encode_event_entry.ensures texts

pub returns-in_err-end_run-clause-fault : goal.returns-in_err-end_run-clause-fault
returns-in_err-end_run-clause-fault c =
    let old = c.args.batch.now in
    err_by (IsOfEvent old.issued old.stream old.nexts c.args.event.now) c.from_residual.result c.in_err-end_run.field-0.0 c.from_residual.ensures.1
    (event_of_memory old.issued old.stream old.nexts c.args.event.now c.in_err-end_run.field-0.0 c.in_err-end_run.ensures.fault)

pub returns-in-None-clause-fault : goal.returns-in-None-clause-fault
returns-in-None-clause-fault c =
    let old = c.args.batch.now in
    let many = subst (λ (n : ℕ). 2 ^ 32 ≤ counted n c.args.event.now) c.in_ok-end_run.ensures.issued c.in-None.ensures in
    count_over old.issued old.stream old.nexts c.args.event.now c.in_default.not-Next many

pub returns-in_err-encode_event_entry-clause-fault : goal.returns-in_err-encode_event_entry-clause-fault
returns-in_err-encode_event_entry-clause-fault c =
    let old = c.args.batch.now in
    let count = subst (λ (n : ℕ). c.in-Some.issued ≡ counted n c.args.event.now) c.in_ok-end_run.ensures.issued c.in-Some.ensures in
    err_by (IsOfEvent old.issued old.stream old.nexts c.args.event.now) c.from_residual-in_err-encode_event_entry.result _ c.from_residual-in_err-encode_event_entry.ensures.1
    (event_fault old.issued old.stream old.nexts c.in-Some.issued c.args.event.now c.in_err-encode_event_entry.field-0.0 c.in_default.not-Next count c.in_err-encode_event_entry.ensures)
