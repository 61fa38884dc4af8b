use Rattle.std.proofs.Common.{refl, ap, subst, sym, ◌∙◌, length, ℕ, List, Option}
use Rattle.mr_settle.proofs.Names.{Act, HasBytes, IsUpToDate, Mail, Names, carried, given_by, slice_get, slice_get_read}
use Rattle.mr_replica.specs.declared.event.Event.{Event as ReplicaEvent}
use Rattle.mr_settle.proofs.ProgressLemmas.{zip_get}
use Rattle.mr_settle.proofs.ArriveLemmas.{ready_there, rests_unnamed}
use Rattle.mr_settle.proofs.ready.ready_at.Goals as goal

pub named-requires : goal.named-requires
named-requires g c =
    let end = c.in-Some-Some.ensures.lookup in
    let progress = c.in-Some-Some.ensures'.lookup in
    let next = c.in-Some.ensures.lookup in
    let is_end = slice_get_read c.args.ends.now (length c.args.ends.now) c.args.place c.in-Some-Some.end.now refl end.3.0 end.1 in
    let is_progress = slice_get_read c.args.progress.now (length c.args.progress.now) c.args.place c.in-Some-Some.progress.now refl progress.3.0 progress.1 in
    let is_next = slice_get_read c.log-log.result.now (length c.log-log.result.now) c.in-Some-Some.progress.now.done c.in-Some.event.now refl next.3.0 next.1 in
    let is_event = ap (λ (log : List ReplicaEvent). slice_get log c.in-Some-Some.progress.now.done) (sym c.log-log.ensures.all) ∙ is_next in
    let kept = zip_get IsUpToDate c.args.ends.now c.args.progress.now c.args.place c.in-Some-Some.end.now c.in-Some-Some.progress.now c.requires is_end is_progress in
    subst (λ (bytes : Option (List ℕ)). HasBytes (carried c.in-Some.event.now) bytes) (sym c.frame.ensures) (kept c.in-Some.event.now is_event)

pub returns-in-Some-2 : goal.returns-in-Some-2
returns-in-Some-2 g c =
    let end = c.in-Some-Some.ensures.lookup in
    let progress = c.in-Some-Some.ensures'.lookup in
    let next = c.in-Some.ensures.lookup in
    let is_end = slice_get_read c.args.ends.now (length c.args.ends.now) c.args.place c.in-Some-Some.end.now refl end.3.0 end.1 in
    let is_progress = slice_get_read c.args.progress.now (length c.args.progress.now) c.args.place c.in-Some-Some.progress.now refl progress.3.0 progress.1 in
    let is_next = slice_get_read c.log-log.result.now (length c.log-log.result.now) c.in-Some-Some.progress.now.done c.in-Some.event.now refl next.3.0 next.1 in
    let is_event = ap (λ (log : List ReplicaEvent). slice_get log c.in-Some-Some.progress.now.done) (sym c.log-log.ensures.all) ∙ is_next in
    ready_there g.K.Knowledge.form c.args.ends.now (given_by c.args.given.now) c.args.progress.now c.args.place c.in-Some-Some.end.now c.in-Some-Some.progress.now c.in-Some.event.now c.in-Some-2.act c.id.result c.by.result
    is_end is_progress is_event c.log-log.ensures.is_its_log
    (subst (λ (o : Option (Act Mail)). Names (given_by c.args.given.now) c.in-Some.event.now o) c.in-Some-2.is c.in_ok-act.ensures)
    c.id.ensures c.by.ensures

pub returns-in-None : goal.returns-in-None
returns-in-None g c =
    let end = c.in-Some-Some.ensures.lookup in
    let progress = c.in-Some-Some.ensures'.lookup in
    let next = c.in-Some.ensures.lookup in
    let is_end = slice_get_read c.args.ends.now (length c.args.ends.now) c.args.place c.in-Some-Some.end.now refl end.3.0 end.1 in
    let is_progress = slice_get_read c.args.progress.now (length c.args.progress.now) c.args.place c.in-Some-Some.progress.now refl progress.3.0 progress.1 in
    let is_next = slice_get_read c.log-log.result.now (length c.log-log.result.now) c.in-Some-Some.progress.now.done c.in-Some.event.now refl next.3.0 next.1 in
    let is_event = ap (λ (log : List ReplicaEvent). slice_get log c.in-Some-Some.progress.now.done) (sym c.log-log.ensures.all) ∙ is_next in
    rests_unnamed c.args.ends.now (given_by c.args.given.now) c.args.progress.now c.args.place c.in-Some-Some.end.now c.in-Some-Some.progress.now c.in-Some.event.now is_end is_progress is_event
    (subst (λ (o : Option (Act Mail)). Names (given_by c.args.given.now) c.in-Some.event.now o) c.in-None.is c.in_ok-act.ensures)
