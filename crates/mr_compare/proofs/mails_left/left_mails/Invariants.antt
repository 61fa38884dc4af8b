use Rattle.std.proofs.Common.{◌≡◌, ◌++◌, ℕ, List}
use Rattle.mr_compare.proofs.Names.{at_digest, left_mail, stayed_views, text_cmp, values_at, values_of}
use Rattle.mr_compare.proofs.mails_left.left_mails.Given as goal

-- what was left of the mails whose items are told so far
abbrev pub invariant-loop-digest : goal.invariant-loop-digest
invariant-loop-digest l = (digest : List ℕ) → at_digest l.mails.entries digest
    ≡ left_mail (values_at text_cmp l.cards.entries digest ++ stayed_views l.left.changed.entries (values_at text_cmp l.items.entries digest)) (values_of text_cmp digest l.yielded)
