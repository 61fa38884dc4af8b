-- lists that are related element by element
use Rattle.std.proofs.Common.{◌≡◌, suc, List, [], ◌∷◌, ◌++◌, length, refl, ap, arith}
use Rattle.mr_filter.proofs.Names.{All, All-head, All-tail, AllZip}

pub AllZip-append : {A B : Type 0} (R : A → B → Type 0) (xs us : List A) (ys vs : List B) → AllZip R xs ys → AllZip R us vs → AllZip R (xs ++ us) (ys ++ vs)
AllZip-append R [] us [] vs first second = second
AllZip-append R [] us (y ∷ ys) vs first second = absurd first
AllZip-append R (x ∷ xs) us [] vs first second = absurd first
AllZip-append R (x ∷ xs) us (y ∷ ys) vs first second = (first.0, AllZip-append R xs us ys vs first.1 second)

pub length_zip : {A B : Type 0} (R : A → B → Type 0) (xs : List A) (ys : List B) → AllZip R xs ys → length ys ≡ length xs
length_zip R [] [] each = refl
length_zip R [] (y ∷ ys) each = absurd each
length_zip R (x ∷ xs) [] each = absurd each
length_zip R (x ∷ xs) (y ∷ ys) each = ap suc (length_zip R xs ys each.1)

-- where an element has one partner, a list has one
pub zip_unique : {A B : Type 0} (R : A → B → Type 0) → ((x : A) (y z : B) → R x y → R x z → y ≡ z) → (xs : List A) (ys zs : List B) → AllZip R xs ys → AllZip R xs zs → ys ≡ zs
zip_unique R one [] [] [] a b = refl
zip_unique R one [] [] (z ∷ zs) a b = absurd b
zip_unique R one [] (y ∷ ys) zs a b = absurd a
zip_unique R one (x ∷ xs) [] zs a b = absurd a
zip_unique R one (x ∷ xs) (y ∷ ys) [] a b = absurd b
zip_unique R one (x ∷ xs) (y ∷ ys) (z ∷ zs) a b = grind (arith, zip_unique R one xs ys zs a.1 b.1)

pub zip_flipped : {A B : Type 0} (R : A → B → Type 0) (xs : List A) (ys : List B) → AllZip R xs ys → AllZip (λ y x. R x y) ys xs
zip_flipped R [] [] each = tt
zip_flipped R [] (y ∷ ys) each = absurd each
zip_flipped R (x ∷ xs) [] each = absurd each
zip_flipped R (x ∷ xs) (y ∷ ys) each = (each.0, zip_flipped R xs ys each.1)

-- what stands at a place of the one list has a partner in the other
pub zip_at : {A B : Type 0} (R : A → B → Type 0) (before : List A) (x : A) (after : List A) (ys : List B) → AllZip R (before ++ x ∷ after) ys → (y : B) × R x y
zip_at R [] x after [] each = absurd each
zip_at R [] x after (y ∷ ys) each = (y, each.0)
zip_at R (b ∷ before) x after [] each = absurd each
zip_at R (b ∷ before) x after (y ∷ ys) each = zip_at R before x after ys each.1

pub zip_kept : {A B : Type 0} (R : A → B → Type 0) (P : B → Type 0) (xs : List A) (ys : List B) → AllZip R xs ys → All P ys → AllZip (λ x y. R x y × P y) xs ys
zip_kept R P [] [] each kept = tt
zip_kept R P [] (y ∷ ys) each kept = absurd each
zip_kept R P (x ∷ xs) [] each kept = absurd each
zip_kept R P (x ∷ xs) (y ∷ ys) each kept = ((each.0, All-head P y ys kept), zip_kept R P xs ys each.1 (All-tail P y ys kept))
