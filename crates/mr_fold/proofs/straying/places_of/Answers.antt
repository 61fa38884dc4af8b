use Rattle.std.proofs.Common.{◌++◌, ap, sym, ◌∙◌}
use Rattle.std.specs.Option.{option_to_list}
use Rattle.mr_folder.proofs.HeldLemmas.{one_more}
use Rattle.mr_fold.specs.inner.Straying.{place_of}
use Rattle.mr_fold.proofs.straying.places_of.Goals as goal

pub loop-mail-preserved : goal.loop-mail-preserved
loop-mail-preserved c =
    let place = place_of c.args.table.now.entries in
    one_more place c.args.acts.now c.loop-mail.mail-index c.mail-item.result c.loop-mail.places.items c.push_some.new.places.items (place c.mail-item.result) c.loop-mail-test.true c.loop-mail.invariant (ap place (sym c.mail-item.is))
    (c.in_ok-push_some.ensures ∙ ap (λ o. c.loop-mail.places.items ++ option_to_list o) c.place_of.ensures)
