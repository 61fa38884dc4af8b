use Rattle.std.proofs.Common.{◌∙◌, inr, ap, length}
use Rattle.mr_kept.proofs.RefusingLemmas.{no_replay, refused_log}
use Rattle.mr_kept.proofs.OpenLemmas.{is_headed, is_replayed}
use Rattle.mr_kept.proofs.opening.replay_of.Goals as goal

pub returns-in-Ok-clause-replayed : goal.returns-in-Ok-clause-replayed
returns-in-Ok-clause-replayed g c =
    let found = c.in_ok-events.ensures.gathered in
    let events = c.in_ok-events.field-0.events.items in
    let headed = is_headed {head = c.in_ok-head.head} {filter = c.in_ok-filter.filter} c.args.entries.items c.as_slice.result.now c.first-item.result _ _ c.as_slice.ensures.value c.in-len1-up.len_at_least c.first-item.is c.deref.ensures.value c.in_ok-head.ensures.spelled
    c.filter.ensures c.in_ok-filter.ensures.read in
    is_replayed g.K.Knowledge.form headed found.0 events c.id.result c.event_limit.result (length c.log-log.result.now) c.in_ok-events.field-0.issued c.in_ok-events.field-0.notes.items c.in-Ok.replica found.1 found.2 found.3 found.4 found.5
    (ap length (c.log-log.ensures.all ∙ c.in-Ok.ensures.log)) c.id.ensures.is c.event_limit.ensures c.in-Ok.ensures.replayed c.in-Ok.ensures.log

pub returns-in-Err-clause-fault : goal.returns-in-Err-clause-fault
returns-in-Err-clause-fault g c =
    let head = c.in_ok-head.head in
    let filter = c.in_ok-filter.filter in
    let found = c.in_ok-events.ensures.gathered in
    let no = no_replay g.K.Knowledge.form head filter _ c.in_ok-events.field-0.events.items c.id.result c.event_limit.result c.in-Err.fault c.id.ensures.is c.event_limit.ensures found.3 c.in-Err.ensures.bad_limit.0 c.in-Err.ensures.refused in
    refused_log g.K.Knowledge.form
    (is_headed {head = head} {filter = filter} c.args.entries.items c.as_slice.result.now c.first-item.result _ _ c.as_slice.ensures.value c.in-len1-up.len_at_least c.first-item.is c.deref.ensures.value c.in_ok-head.ensures.spelled c.filter.ensures c.in_ok-filter.ensures.read)
    c.args.mark.now c.args.birth _ c.in_ok-check_head.ensures.ok (inr (found.0, found.1, found.2, no))
