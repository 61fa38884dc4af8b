use Rattle.std.proofs.Common.{[], ◌∷◌, ap, ◌∙◌}
use Rattle.mr_lookup.proofs.Names.{is_among, message_at, told_with}
use Rattle.mr_lookup.proofs.ToldLemmas.{not_named}
use Rattle.mr_lookup.proofs.told.note_created.Goals as goal

pub returns-in_ok-note_first-in-Some : goal.returns-in_ok-note_first-in-Some
returns-in_ok-note_first-in-Some c = λ item is.
    c.in_ok-note_first-in-Some.ensures item
    ∙ ap (λ n. told_with (message_at ((n, c.args.message.now) ∷ []) item) (message_at c.args.told.now.entries item) (is_among c.args.items.now.keys item)) c.in-Some.ensures.is

pub returns-in-None : goal.returns-in-None
returns-in-None c = λ item is.
    not_named c.args.id c.args.counter c.args.message.now (message_at c.args.told.now.entries item) (is_among c.args.items.now.keys item) c.in-None.ensures.no item is
