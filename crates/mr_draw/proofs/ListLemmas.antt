-- lists that grow by what one element more gives
use Rattle.std.proofs.Common.{◌≡◌, ℕ, ◌+◌, ◌∙◌, ap, sym, Bool, cond, List, [], ◌∷◌, ◌++◌, Option, Some, None, length, filter, refl, take, get_or, arith, ◌<◌, ◌≤◌, append-nil, append_assoc, flat_map}
use Rattle.mr_draw.proofs.Names.{cons_option, filter_map, filter_map-append, option_to_list, take_more}

-- a list of one, or of none
pub cons_option-nil : {A : Type 0} (x : Option A) → cons_option x [] ≡ option_to_list x
cons_option-nil None = refl
cons_option-nil (Some x) = refl

-- one more gives what it gives
filter_map-more : {A B : Type 0} (f : A → Option B) (xs : List A) (x : A) → filter_map f (xs ++ x ∷ []) ≡ filter_map f xs ++ option_to_list (f x)
filter_map-more f xs x = filter_map-append f xs (x ∷ []) ∙ ap (λ ys. filter_map f xs ++ ys) (cons_option-nil (f x))

flat_map-more : {A B : Type 0} (f : A → List B) (xs : List A) (x : A) → flat_map f (xs ++ x ∷ []) ≡ flat_map f xs ++ f x
flat_map-more f [] x = append-nil (f x)
flat_map-more f (y ∷ ys) x = ap (λ zs. f y ++ zs) (flat_map-more f ys x) ∙ sym (append_assoc (f y) (flat_map f ys) (f x))

-- a list that grew by one gives what that gives too
pub flat_map-grown : {A B : Type 0} (f : A → List B) (start : List B) (xs longer : List A) (x : A) (before after : List B) → longer ≡ xs ++ x ∷ [] →
    before ≡ start ++ flat_map f xs → after ≡ before ++ f x → after ≡ start ++ flat_map f longer
flat_map-grown f start xs longer x before after more invariant pushed =
    pushed ∙ ap (λ ys. ys ++ f x) invariant ∙ append_assoc start (flat_map f xs) (f x)
    ∙ ap (λ ys. start ++ ys) (sym (flat_map-more f xs x) ∙ ap (flat_map f) (sym more))

-- a loop that puts behind the others what an element gives
pub flat_map-pushed : {A B : Type 0} (f : A → List B) (start : List B) (all : List A) (i : ℕ) (x : A) (before after : List B) → i < length all → x ≡ get_or all i x →
    before ≡ start ++ flat_map f (take i all) → after ≡ before ++ f x → after ≡ start ++ flat_map f (take (i + 1) all)
flat_map-pushed f start all i x before after inside is =
    flat_map-grown f start (take i all) (take (i + 1) all) x before after (take_more all i x inside ∙ ap (λ y. take i all ++ y ∷ []) (sym is))

-- the same where an element gives one thing at most
pub filter_map-grown : {A B : Type 0} (f : A → Option B) (xs longer : List A) (x : A) (before after : List B) → longer ≡ xs ++ x ∷ [] →
    before ≡ filter_map f xs → after ≡ before ++ option_to_list (f x) → after ≡ filter_map f longer
filter_map-grown f xs longer x before after more invariant pushed =
    pushed ∙ ap (λ ys. ys ++ option_to_list (f x)) invariant ∙ sym (filter_map-more f xs x) ∙ ap (filter_map f) (sym more)

-- at most one more
length-cons_option : {A : Type 0} (o : Option A) (ys : List A) (n : ℕ) → length ys ≤ n → length (cons_option o ys) ≤ n + 1
length-cons_option None ys n h = omega (arith, h)
length-cons_option (Some y) ys n h = omega (arith, h)

-- it gives no more than there were
pub length-filter_map : {A B : Type 0} (f : A → Option B) (xs : List A) → length (filter_map f xs) ≤ length xs
length-filter_map f [] = omega arith
length-filter_map f (x ∷ xs) =
    let most = length-cons_option (f x) (filter_map f xs) (length xs) (length-filter_map f xs) in omega (arith, most)

-- ---- what is kept of a list

-- tests that answer the same keep the same
pub filter-same : {A : Type 0} (p q : A → Bool) → ((x : A) → p x ≡ q x) → (xs : List A) → filter p xs ≡ filter q xs
filter-same p q same [] = refl
filter-same p q same (x ∷ xs) = ap (λ b. cond b (x ∷ filter p xs) (filter p xs)) (same x) ∙ ap (λ ys. cond (q x) (x ∷ ys) ys) (filter-same p q same xs)

-- ---- texts that are put behind one another

pub joined3 : (s0 s1 s2 s3 a b c : List ℕ) → s1 ≡ s0 ++ a → s2 ≡ s1 ++ b → s3 ≡ s2 ++ c → s3 ≡ s0 ++ (a ++ b ++ c)
joined3 s0 s1 s2 s3 a b c h1 h2 h3 =
    h3 ∙ ap (λ s. s ++ c) (h2 ∙ ap (λ s. s ++ b) h1 ∙ append_assoc s0 a b) ∙ append_assoc s0 (a ++ b) c

pub joined2 : (s0 s1 s2 a b : List ℕ) → s1 ≡ s0 ++ a → s2 ≡ s1 ++ b → s2 ≡ s0 ++ (a ++ b)
joined2 s0 s1 s2 a b h1 h2 = h2 ∙ ap (λ s. s ++ b) h1 ∙ append_assoc s0 a b
