-- what leaves behind a gap
use Rattle.std.proofs.Common.{◌≡◌, ◌<◌, ◌≤◌, ◌+◌, ◌∙◌, ℕ, zero, suc, List, [], ◌++◌, append_assoc, add-one, length, take, drop, refl, arith, insert, remove, ◌∷◌}
use Rattle.std.proofs.lemmas.List.{drop-append-le, drop-drop, drop-take, take-take, length-take, length-drop}

-- without one behind the gap
pub drop-remove : {X : Type 0} (gap place : ℕ) (xs : List X) → place < length (drop gap xs) → drop gap (remove xs (gap + place)) ≡ remove (drop gap xs) place
drop-remove gap place xs within =
    let inside = rw (length-drop gap xs) at within in
    let next : suc (gap + place) ≡ gap + suc place = omega arith in
    drop-append-le gap (take (gap + place) xs) (drop (suc (gap + place)) xs) (rw (length-take (gap + place) xs) (omega (arith, inside)))
    ∙ rw (drop-take gap place xs, drop-drop (suc place) gap xs, next) refl

-- with one more behind the gap
pub drop-insert : {X : Type 0} (gap place : ℕ) (xs : List X) (x : X) → gap ≤ length xs → place ≤ length (drop gap xs) → drop gap (insert xs (gap + place) x) ≡ insert (drop gap xs) place x
drop-insert gap place xs x gap_within within = grind (arith, length-drop, drop-append-le, length-take, drop-take, drop-drop)

without_first : {X : Type 0} (gap : ℕ) (xs zs : List X) → gap ≤ length xs → drop (suc gap) (take gap xs ++ zs) ≡ drop 1 zs
without_first zero xs zs h = refl
without_first (suc gap) [] zs h = absurd (omega arith)
without_first (suc gap) (x ∷ xs) zs h = without_first gap xs zs (omega arith)

without_last : {X : Type 0} (place : ℕ) (xs zs : List X) → place < length xs → drop 1 (drop place (take (suc place) xs) ++ zs) ≡ zs
without_last place [] zs h = absurd (omega arith)
without_last zero (x ∷ xs) zs h = refl
without_last (suc place) (x ∷ xs) zs h = without_last place xs zs (omega arith)

-- behind one that was moved to the front are the others
pub drop-to_front : {X : Type 0} (gap place k n : ℕ) (xs ys : List X) → gap + place < length xs → k ≡ suc place → n ≡ place
    → ys ≡ drop n (take k (drop gap xs)) ++ take n (take k (drop gap xs)) → drop (gap + 1) (take gap xs ++ (ys ++ drop k (drop gap xs))) ≡ remove (drop gap xs) place
drop-to_front gap place k n xs ys within some before turned = grind (arith, length-drop, append_assoc, without_last, take-take, add-one, without_first)
