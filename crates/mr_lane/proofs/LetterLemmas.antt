-- The letters of one sender among notes of all.
use Rattle.std.proofs.Common.{◌≡◌, true, List, [], ◌∷◌, sym, refl, ap, ◌∙◌, arith}
use Rattle.mr_lane.proofs.Names.{Note, PostView, Sender, items_of, pieces, pieces_by, sender_number}
use Rattle.mr_lane.specs.Letters.{letters_in, letters_by}
use Rattle.mr_lane.specs.Inbox.{IsAllOf}
use Rattle.mr_lane.proofs.PieceLemmas.{items_of-pieces}

module _ {T : Type 0} where
  -- the items of one sender's pieces are its letters
  pub items-by : (sender : Sender) (notes : List (Note T)) → items_of (pieces_by (sender_number sender) notes) ≡ letters_by sender (letters_in notes)
  items-by sender [] = refl
  items-by sender (note ∷ notes) = grind (arith, items-by sender notes)

  -- pieces that are all of a post's have its letters
  pub letters-all : (sender : Sender) (taken : List (Note T)) (sent : List T) → pieces_by (sender_number sender) taken ≡ pieces sent true → letters_by sender (letters_in taken) ≡ sent
  letters-all sender taken sent all = sym (items-by sender taken) ∙ (ap items_of all ∙ items_of-pieces sent true)

  -- what was taken of a post in whole has its letters
  pub letters-settled : (taken : List (Note T)) (post : PostView T) → IsAllOf taken post → letters_by post.sender (letters_in taken) ≡ post.sent
  letters-settled taken post all = letters-all post.sender taken post.sent all.in_order
