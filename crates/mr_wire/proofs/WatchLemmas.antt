-- what is told of two versions while a vector is read
use Rattle.std.proofs.Common.{◌≡◌, Bool, false, ◌||◌, List, [], ◌∷◌, ◌++◌, ap, ◌∙◌, arith}
use Rattle.mr_wire.proofs.Names.{AreIn, AreSeen, AuthorColumn, Counters, Head, Hole, IsHead, Seen, Watch, either_seen, list_any, seen_with}
use Rattle.std.proofs.lemmas.List.Folds.{list_any-append}

or_false : (b : Bool) → (b || false) ≡ b
or_false b = grind arith

any_more : {X : Type 0} (p : X → Bool) (xs : List X) (x : X) → list_any p (xs ++ x ∷ []) ≡ (list_any p xs || p x)
any_more p xs x = list_any-append p xs (x ∷ []) ∙ ap (λ b. list_any p xs || b) (or_false (p x))

pub holes_more : (watched : Counters) (seen : Seen) (xs : List Hole) (hole : Hole) → AreSeen watched seen xs → AreSeen watched (seen_with seen hole watched) (xs ++ hole ∷ [])
holes_more watched seen xs hole h = grind (arith, any_more)

pub columns_more : (watch : Watch) (seen : Seen) (xs : List AuthorColumn) (head : Head) (x : AuthorColumn) → IsHead watch head x → AreIn watch seen xs → AreIn watch (either_seen seen head.seen) (xs ++ x ∷ [])
columns_more watch seen xs head x is h = grind (arith, any_more)
