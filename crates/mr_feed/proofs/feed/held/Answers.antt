use Rattle.std.proofs.Common.{ap, sym, ◌∙◌, take}
use Rattle.mr_model.specs.Headline as model
use Rattle.mr_feed.specs.Entry.{told}
use Rattle.mr_feed.specs.Fold.{with_card}
use Rattle.mr_feed.proofs.FoldLemmas.{fold-take_more}
use Rattle.mr_feed.proofs.feed.held.Goals as goal

pub loop-entry-preserved : goal.loop-entry-preserved
loop-entry-preserved c v =
    c.in_ok-note.ensures (model.fold (told (take c.loop-entry.entry-index c.args.entries.now))) v (c.loop-entry.invariant v)
    ∙ ap (λ cards. with_card cards v) (sym (fold-take_more c.args.entries.now c.loop-entry.entry-index c.entry-item.result c.loop-entry-test.true c.entry-item.is))
