use Rattle.std.proofs.Common.{ap, ◌∙◌}
use Rattle.mr_compare.proofs.Names.{is_some, told_last}
use Rattle.mr_compare.proofs.LeftLemmas.{cards_step}
use Rattle.mr_compare.proofs.left.cards_in.Goals as goal

pub loop-entry-preserved : goal.loop-entry-preserved
loop-entry-preserved c =
    cards_step c.loop-entry.cards.entries c.note_if.new.cards.entries (λ item. is_some (told_last c.args.changed.now.entries item)) c.args.entries.now c.loop-entry.entry-index c.entry-item.result c.contains_key.result c.loop-entry-test.true c.entry-item.is (c.contains_key.ensures ∙ ap (λ n. is_some (told_last c.args.changed.now.entries n)) c.item.ensures) c.in_ok-note_if.ensures c.loop-entry.invariant
