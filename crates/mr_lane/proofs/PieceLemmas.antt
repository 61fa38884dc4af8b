-- Lists of pieces: items, and the end mark last.
use Rattle.std.proofs.Common.{◌≡◌, ℕ, suc, Bool, true, false, true≢false, List, [], ◌∷◌, ◌++◌, length, sym, refl, ap, ◌∙◌, arith}
use Rattle.mr_lane.proofs.Names.{End, Item, Piece, append-nil, items_of, pieces}
use Rattle.mr_lane.specs.inner.Tap.{EndsWithWaiting}

module _ {T : Type 0} where
  pub items_of-append : (ps qs : List (Piece T)) → items_of (ps ++ qs) ≡ items_of ps ++ items_of qs
  items_of-append [] qs = refl
  items_of-append (Item x ∷ ps) qs = ap (λ l. x ∷ l) (items_of-append ps qs)
  items_of-append (End ∷ ps) qs = items_of-append ps qs

  pub items_of-pieces : (xs : List T) (ended : Bool) → items_of (pieces xs ended) ≡ xs
  items_of-pieces [] true = refl
  items_of-pieces [] false = refl
  items_of-pieces (x ∷ xs) ended = ap (λ l. x ∷ l) (items_of-pieces xs ended)

  pieces-item : (xs : List T) (x : T) → pieces xs false ++ Item x ∷ [] ≡ pieces (xs ++ x ∷ []) false
  pieces-item [] x = refl
  pieces-item (y ∷ ys) x = ap (λ l. Item y ∷ l) (pieces-item ys x)

  pieces-end : (xs : List T) → pieces xs false ++ End ∷ [] ≡ pieces xs true
  pieces-end [] = refl
  pieces-end (y ∷ ys) = ap (λ l. Item y ∷ l) (pieces-end ys)

  -- unended pieces with one item more are unended, and have that item last
  pub one_more : (ps qs : List (Piece T)) (p : Piece T) (x : T) (b : Bool) → b ≡ false → ps ≡ pieces (items_of ps) b → p ≡ Item x → qs ≡ ps ++ p ∷ [] → (items_of qs ≡ items_of ps ++ x ∷ []) × (qs ≡ pieces (items_of qs) b)
  one_more ps qs p x b off was piece is = grind (arith, items_of-append, pieces-item)

  -- unended pieces with the end mark have the same items, and have ended
  pub ended : (ps qs : List (Piece T)) (p : Piece T) (b : Bool) → b ≡ false → ps ≡ pieces (items_of ps) b → p ≡ End → qs ≡ ps ++ p ∷ [] → (items_of qs ≡ items_of ps) × (qs ≡ pieces (items_of qs) true)
  ended ps qs p b off was piece is =
      let last : qs ≡ ps ++ End ∷ [] = is ∙ ap (λ y. ps ++ y ∷ []) piece in
      let e : items_of qs ≡ items_of ps = ap items_of last ∙ (items_of-append ps (End ∷ []) ∙ append-nil (items_of ps)) in
      (e, last ∙ ap (λ l. l ++ End ∷ []) (was ∙ ap (λ c. pieces (items_of ps) c) off) ∙ pieces-end (items_of ps) ∙ ap (λ l. pieces l true) (sym e))

  length_items : (xs : List T) → length (items_of (pieces xs false)) ≡ length (pieces xs false)
  length_items [] = refl
  length_items (x ∷ xs) = ap suc (length_items xs)

  -- a part of unended pieces is of items alone, as many as it has pieces
  parts : (gone waiting : List (Piece T)) (xs : List T) → pieces xs false ≡ gone ++ waiting → (xs ≡ items_of gone ++ items_of waiting) × (length (items_of waiting) ≡ length waiting)
  parts [] waiting xs e = (sym (items_of-pieces xs false) ∙ ap items_of e, ap (λ l. length (items_of l)) (sym e) ∙ (length_items xs ∙ ap length e))
  parts (p ∷ gone) waiting [] e = cc
  parts (End ∷ gone) waiting (x ∷ xs) e = cc
  parts (Item y ∷ gone) waiting (x ∷ xs) e = let rest : pieces xs false ≡ gone ++ waiting = cc in let r = parts gone waiting xs rest in let same : x ≡ y = cc in (cc (r.0, same), r.1)

  -- where unended pieces end with some that wait, the items end with as many
  pub waiting_items : (ps : List (Piece T)) (count : ℕ) (b : Bool) → b ≡ false → ps ≡ pieces (items_of ps) b → EndsWithWaiting ps count → (gone : List T) × (waiting : List T) × (items_of ps ≡ gone ++ waiting) × (length waiting ≡ count)
  waiting_items ps count b off was full = let r = parts full.2.0 full.0 (items_of ps) (sym (was ∙ ap (λ c. pieces (items_of ps) c) off) ∙ full.2.1) in (items_of full.2.0, items_of full.0, r.0, r.1 ∙ full.1)

  -- a beginning of pieces has a beginning of the items; where it has the end mark, it is all of them
  pub begins_of : (xs ys : List T) (a b : Bool) (rest : List (Piece T)) → pieces xs a ≡ pieces ys b ++ rest → ((more : List T) × (xs ≡ ys ++ more)) × (b ≡ true → (xs ≡ ys) × (a ≡ true))
  begins_of xs [] a false rest e = ((xs, refl), λ p. absurd (true≢false (sym p)))
  begins_of [] [] true true rest e = (([], refl), λ _. (refl, refl))
  begins_of [] [] false true rest e = cc
  begins_of (x ∷ xs) [] a true rest e = cc
  begins_of [] (y ∷ ys) true b rest e = cc
  begins_of [] (y ∷ ys) false b rest e = cc
  begins_of (x ∷ xs) (y ∷ ys) a b rest e = grind (arith, begins_of xs ys a b rest)
