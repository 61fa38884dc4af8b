use Rattle.std.proofs.Common.{List, [], refl, ap, subst, sym, ◌∙◌, arith}
use Rattle.mr_lookup.proofs.Names.{Event, IsHistory, take_all, told_more}
use Rattle.mr_lookup.proofs.HistoryLemmas.{history-more, none_yet}
use Rattle.mr_lookup.proofs.ToldLemmas.{issued-more, issued_one}
use Rattle.mr_lookup.proofs.past.history_in.Goals as goal

pub loop-event-init : goal.loop-event-init
loop-event-init c = record { few = omega arith; issued = refl; past = subst (IsHistory c.args.id c.args.item []) (sym c.new-past.ensures.items) (none_yet c.args.id c.args.item) }

pub loop-event-preserved : goal.loop-event-preserved
loop-event-preserved c =
    let log = c.args.log.now in
    let i = c.loop-event.event-index in
    let e = c.event-item.result in
    let so_far = c.loop-event.invariant in
    let one = issued_one c.loop-event.issued e in
    record {
      few = omega (arith, one, c.issued_then-issued.ensures, so_far.few);
      issued = issued-more log i e c.loop-event.issued c.issued_then-issued.result c.loop-event-test.true c.event-item.is so_far.issued c.issued_then-issued.ensures;
      past = history-more c.args.id c.args.item log i e c.loop-event.issued c.loop-event.past.items c.note_version.new.past.items c.loop-event-test.true c.event-item.is so_far.issued so_far.past
          (c.in_ok-note_version.ensures ∙ ap (told_more c.args.item c.loop-event.past.items e) c.told_version.ensures);
    }

pub returns : goal.returns
returns c =
    subst (λ (es : List Event). IsHistory c.args.id c.args.item es c.loop-event.past.items)
    (take_all c.loop-event.event-index c.args.log.now (omega (arith, c.loop-event-test.false))) c.loop-event.invariant.past
