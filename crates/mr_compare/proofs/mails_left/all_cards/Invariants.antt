use Rattle.std.proofs.Common.{◌≡◌, ◌++◌}
use Rattle.mr_compare.proofs.Names.{MailCard, Name, at_item, card_view, cards_told, flat_map, with_digest}
use Rattle.mr_compare.proofs.mails_left.all_cards.Given as goal

-- the cards so far and those of the entries that are left are all
abbrev pub invariant-loop-key : goal.invariant-loop-key
invariant-loop-key l = l.cards.items ++ flat_map (λ (e : (Name × Name) × MailCard). with_digest (at_item l.digests.entries e.0.0) (card_view e.1)) l.key-iterator ≡ cards_told l.left.cards.entries l.digests.entries
