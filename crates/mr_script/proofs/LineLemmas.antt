-- the first line of some bytes, and the others
use Rattle.std.proofs.Common.{◌≡◌, ◌≢◌, ◌==◌, ◌⊎◌, inl, inr, ℕ, true, false, List, [], ◌∷◌, refl, ap, sym, ◌∙◌}
use Rattle.mr_script.proofs.Names.{cases_Bool, drop_through, lines_of, onto_first, take_through}

-- a byte in front of the first line
put_first : (b : ℕ) (bs first : List ℕ) (rest : List (List ℕ)) → (b == 10) ≡ false → lines_of bs ≡ first ∷ rest → lines_of (b ∷ bs) ≡ (b ∷ first) ∷ rest
put_first b bs first rest other are = rw other (ap (onto_first b) are)

first_goes_on : (b : ℕ) (bs : List ℕ) → (b == 10) ≡ false → take_through 10 (b ∷ bs) ≡ b ∷ take_through 10 bs
first_goes_on b bs other = rw other refl

rest_goes_on : (b : ℕ) (bs : List ℕ) → (b == 10) ≡ false → drop_through 10 (b ∷ bs) ≡ drop_through 10 bs
rest_goes_on b bs other = rw other refl

same_cons : (x y : List ℕ) (xs ys : List (List ℕ)) → x ≡ y → xs ≡ ys → x ∷ xs ≡ y ∷ ys
same_cons x y xs ys e f = cc

at_feed : (b : ℕ) (bs : List ℕ) → (b == 10) ≡ true → lines_of (b ∷ bs) ≡ take_through 10 (b ∷ bs) ∷ lines_of (drop_through 10 (b ∷ bs))
at_feed b bs feed = rw feed refl

alone : (b : ℕ) → (b == 10) ≡ false → lines_of (b ∷ []) ≡ take_through 10 (b ∷ []) ∷ lines_of (drop_through 10 (b ∷ []))
alone b other = rw other refl

by_first : (b : ℕ) (bs : List ℕ) → ((b == 10) ≡ true) ⊎ ((b == 10) ≡ false) → (bs ≡ []) ⊎ (lines_of bs ≡ take_through 10 bs ∷ lines_of (drop_through 10 bs)) → lines_of (b ∷ bs) ≡ take_through 10 (b ∷ bs) ∷ lines_of (drop_through 10 (b ∷ bs))
by_first b bs (inl feed) rest = at_feed b bs feed
by_first b bs (inr other) (inl none) = rw none (alone b other)
by_first b bs (inr other) (inr are) =
    put_first b bs (take_through 10 bs) (lines_of (drop_through 10 bs)) other are
    ∙ sym (same_cons _ _ _ _ (first_goes_on b bs other) (ap lines_of (rest_goes_on b bs other)))

first_or_none : (bs : List ℕ) → (bs ≡ []) ⊎ (lines_of bs ≡ take_through 10 bs ∷ lines_of (drop_through 10 bs))
first_or_none [] = inl refl
first_or_none (b ∷ bs) = inr (by_first b bs (cases_Bool (b == 10)) (first_or_none bs))

-- the first line ends with the first line feed, and the others are those of what follows
pub lines-first : (bs : List ℕ) → bs ≢ [] → lines_of bs ≡ take_through 10 bs ∷ lines_of (drop_through 10 bs)
lines-first [] some = absurd (some refl)
lines-first (b ∷ bs) some = by_first b bs (cases_Bool (b == 10)) (first_or_none bs)
