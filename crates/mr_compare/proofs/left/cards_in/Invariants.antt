use Rattle.std.proofs.Common.{◌≡◌, cond, take, None}
use Rattle.mr_compare.proofs.Names.{Name, card_left, is_some, item_cards, told_last}
use Rattle.mr_compare.proofs.left.cards_in.Given as goal

-- what the entries up to here leave of the items that changed
abbrev pub invariant-loop-entry : goal.invariant-loop-entry
invariant-loop-entry l = (item version : Name) → card_left l.cards.entries item version ≡ cond (is_some (told_last l.changed.entries item)) (item_cards (take l.entry-index l.entries) item version) None
