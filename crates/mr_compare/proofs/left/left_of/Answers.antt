use Rattle.std.proofs.Common.{cond, drop, Option, None, ap, ◌∙◌}
use Rattle.mr_compare.proofs.Names.{MailCard, is_some, is_told, item_cards, last_told}
use Rattle.mr_compare.proofs.left.left_of.Goals as goal

pub returns-clause-changed : goal.returns-clause-changed
returns-clause-changed c = λ item. c.in_ok-changed.ensures item ∙ ap (λ es. last_told es item) c.parts_of.ensures.rest

pub returns-clause-cards : goal.returns-clause-cards
returns-clause-cards c = λ item version.
    c.in_ok-cards.ensures item version
    ∙ ap (λ (o : Option (Option MailCard)). cond (is_some o) (item_cards c.parts_of.result.0.now item version) None) (c.in_ok-changed.ensures item ∙ ap (λ es. last_told es item) c.parts_of.ensures.rest)
    ∙ ap (λ es. cond (is_told (drop c.args.shown c.args.feed.now) item) (item_cards es item version) None) c.parts_of.ensures.beginning
