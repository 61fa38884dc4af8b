-- texts without a byte, and the first place of one
use Rattle.std.proofs.Common.{◌≡◌, ◌≢◌, ℕ, ◌<◌, Bool, true, not, List, [], ◌∷◌, ◌++◌, length, get_or, refl, sym, ap, ◌∙◌}
use Rattle.mr_maildir.proofs.Names.{All-from_get_or, and_parts, eq-eqb, false≢true, list_all, list_all-from_AllPass, ne_eqb, not_from_false, ◌==◌}

-- no place has the byte
abbrev pub lacks : ℕ → List ℕ → Bool
lacks c text = list_all (λ b. not (b == c)) text

pub lacks-from : (c : ℕ) (text : List ℕ) → ((i : ℕ) → i < length text → get_or text i 0 ≢ c) → lacks c text ≡ true
lacks-from c text none =
    list_all-from_AllPass (λ b. not (b == c)) text
    (All-from_get_or (λ b. not (b == c) ≡ true) text 0 (λ i below. not_from_false (get_or text i 0 == c) (ne_eqb (get_or text i 0) c (none i below))))

-- a byte that a text lacks isn't its first
pub not_first : (c x : ℕ) (text : List ℕ) → lacks c (x ∷ text) ≡ true → x ≡ c → ⊥
not_first c x text la is =
    let no : not (c == c) ≡ true = rw is at ((and_parts (not (x == c)) (lacks c text) la).0) in
    absurd (false≢true (ap not (sym (eq-eqb c c refl)) ∙ no))

-- a text has one first byte of a value
pub first_byte : (c : ℕ) (a b d e : List ℕ) → lacks c a ≡ true → lacks c d ≡ true → a ++ c ∷ b ≡ d ++ c ∷ e → (a ≡ d) × (b ≡ e)
first_byte c [] b [] e la ld is = (refl, cc)
first_byte c [] b (y ∷ d) e la ld is = let head : y ≡ c = cc in absurd (not_first c y d ld head)
first_byte c (x ∷ a) b [] e la ld is = let head : x ≡ c = cc in absurd (not_first c x a la head)
first_byte c (x ∷ a) b (y ∷ d) e la ld is =
    let head : x ≡ y = cc in
    let tail : a ++ c ∷ b ≡ d ++ c ∷ e = cc in
    let rest = first_byte c a b d e (and_parts (not (x == c)) (lacks c a) la).1 (and_parts (not (y == c)) (lacks c d) ld).1 tail in
    (cc, rest.1)
