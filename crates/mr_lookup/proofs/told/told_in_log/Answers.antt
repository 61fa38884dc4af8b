use Rattle.std.proofs.Common.{arith}
use Rattle.mr_lookup.specs.Told.{is_among}
use Rattle.mr_lookup.proofs.ToldLemmas.{issued-more, issued_one, told-more}
use Rattle.mr_lookup.proofs.told.told_in_log.Goals as goal

pub loop-event-preserved : goal.loop-event-preserved
loop-event-preserved c =
    let log = c.args.log.now in
    let i = c.loop-event.event-index in
    let e = c.event-item.result in
    let so_far = c.loop-event.invariant in
    let one = issued_one c.loop-event.issued e in
    record {
      few = omega (arith, one, c.issued_then-issued.ensures, so_far.few);
      issued = issued-more log i e c.loop-event.issued c.issued_then-issued.result c.loop-event-test.true c.event-item.is so_far.issued c.issued_then-issued.ensures;
      told = told-more c.args.id log i e c.loop-event.issued (is_among c.args.items.now.keys) c.loop-event.told.entries c.note_event.new.told.entries c.loop-event-test.true c.event-item.is so_far.issued c.in_ok-note_event.ensures so_far.told;
    }
