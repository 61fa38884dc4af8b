-- flag bytes of flags that pass a test, and letters on a file
use Rattle.std.proofs.Common.{◌≡◌, ℕ, zero, suc, ◌+◌, ◌<◌, ◌≤◌, lit≤, Bool, true, false, not, cond, ◌&&◌, ◌||◌, List, [], ◌∷◌, ◌++◌, Option, Some, None, is_some, refl, ap, sym, ◌∙◌, arith}
use Rattle.mr_maildir.proofs.Names.{Answered, Deleted, Draft, Flag, Flagged, Seen, and_from, and_parts, any-filter_same, eqb-true, false≢true, filter}
use Rattle.mr_maildir.proofs.Names.{flag_told, flags_told, flags_where, has_flag, has_letter, is_info_byte, is_there, leb-true, list_all}
use Rattle.mr_maildir.specs.Letters.{letters_with}
use Rattle.mr_maildir.proofs.Names.{list_any, nat_le, passes-below, range_with_len, stays_on, tells_flag, with_flag_if, ◌==◌}

-- the byte of five answers
abbrev byte_of : Bool → Bool → Bool → Bool → Bool → ℕ
byte_of a b c d e = with_flag_if (with_flag_if (with_flag_if (with_flag_if (with_flag_if 0 Seen a) Answered b) Flagged c) Draft d) Deleted e

answers : (a b c d e : Bool) → (has_flag (byte_of a b c d e) Seen ≡ a) × (has_flag (byte_of a b c d e) Answered ≡ b) × (has_flag (byte_of a b c d e) Flagged ≡ c) × (has_flag (byte_of a b c d e) Draft ≡ d) × (has_flag (byte_of a b c d e) Deleted ≡ e)
answers true true true true true = (refl, refl, refl, refl, refl)
answers true true true true false = (refl, refl, refl, refl, refl)
answers true true true false true = (refl, refl, refl, refl, refl)
answers true true true false false = (refl, refl, refl, refl, refl)
answers true true false true true = (refl, refl, refl, refl, refl)
answers true true false true false = (refl, refl, refl, refl, refl)
answers true true false false true = (refl, refl, refl, refl, refl)
answers true true false false false = (refl, refl, refl, refl, refl)
answers true false true true true = (refl, refl, refl, refl, refl)
answers true false true true false = (refl, refl, refl, refl, refl)
answers true false true false true = (refl, refl, refl, refl, refl)
answers true false true false false = (refl, refl, refl, refl, refl)
answers true false false true true = (refl, refl, refl, refl, refl)
answers true false false true false = (refl, refl, refl, refl, refl)
answers true false false false true = (refl, refl, refl, refl, refl)
answers true false false false false = (refl, refl, refl, refl, refl)
answers false true true true true = (refl, refl, refl, refl, refl)
answers false true true true false = (refl, refl, refl, refl, refl)
answers false true true false true = (refl, refl, refl, refl, refl)
answers false true true false false = (refl, refl, refl, refl, refl)
answers false true false true true = (refl, refl, refl, refl, refl)
answers false true false true false = (refl, refl, refl, refl, refl)
answers false true false false true = (refl, refl, refl, refl, refl)
answers false true false false false = (refl, refl, refl, refl, refl)
answers false false true true true = (refl, refl, refl, refl, refl)
answers false false true true false = (refl, refl, refl, refl, refl)
answers false false true false true = (refl, refl, refl, refl, refl)
answers false false true false false = (refl, refl, refl, refl, refl)
answers false false false true true = (refl, refl, refl, refl, refl)
answers false false false true false = (refl, refl, refl, refl, refl)
answers false false false false true = (refl, refl, refl, refl, refl)
answers false false false false false = (refl, refl, refl, refl, refl)

-- the byte has just the flags that pass
pub has_flag-flags_where : (test : Flag → Bool) (flag : Flag) → has_flag (flags_where test) flag ≡ test flag
has_flag-flags_where test Seen = (answers (test Seen) (test Answered) (test Flagged) (test Draft) (test Deleted)).0
has_flag-flags_where test Answered = (answers (test Seen) (test Answered) (test Flagged) (test Draft) (test Deleted)).1
has_flag-flags_where test Flagged = (answers (test Seen) (test Answered) (test Flagged) (test Draft) (test Deleted)).2
has_flag-flags_where test Draft = (answers (test Seen) (test Answered) (test Flagged) (test Draft) (test Deleted)).3
has_flag-flags_where test Deleted = (answers (test Seen) (test Answered) (test Flagged) (test Draft) (test Deleted)).4

in_range : (a b c d e : Bool) → byte_of a b c d e ≤ 31
in_range true true true true true = lit≤ tt
in_range true true true true false = lit≤ tt
in_range true true true false true = lit≤ tt
in_range true true true false false = lit≤ tt
in_range true true false true true = lit≤ tt
in_range true true false true false = lit≤ tt
in_range true true false false true = lit≤ tt
in_range true true false false false = lit≤ tt
in_range true false true true true = lit≤ tt
in_range true false true true false = lit≤ tt
in_range true false true false true = lit≤ tt
in_range true false true false false = lit≤ tt
in_range true false false true true = lit≤ tt
in_range true false false true false = lit≤ tt
in_range true false false false true = lit≤ tt
in_range true false false false false = lit≤ tt
in_range false true true true true = lit≤ tt
in_range false true true true false = lit≤ tt
in_range false true true false true = lit≤ tt
in_range false true true false false = lit≤ tt
in_range false true false true true = lit≤ tt
in_range false true false true false = lit≤ tt
in_range false true false false true = lit≤ tt
in_range false true false false false = lit≤ tt
in_range false false true true true = lit≤ tt
in_range false false true true false = lit≤ tt
in_range false false true false true = lit≤ tt
in_range false false true false false = lit≤ tt
in_range false false false true true = lit≤ tt
in_range false false false true false = lit≤ tt
in_range false false false false true = lit≤ tt
in_range false false false false false = lit≤ tt

pub flags_where-le : (test : Flag → Bool) → flags_where test ≤ 31
flags_where-le test = in_range (test Seen) (test Answered) (test Flagged) (test Draft) (test Deleted)

-- ---- letters on a file

and_within : (a w : Bool) → (a ≡ true → w ≡ true) → (a && w) ≡ a
and_within true w h = h refl
and_within false w h = refl

-- each letter that may stand there is one of those that are tried
info_byte-among : (b : ℕ) → is_info_byte b ≡ true → list_any (λ y. y == b) (range_with_len 33 94) ≡ true
info_byte-among b is =
    let low : b < 127 = below_del b is in
    both (is_info_byte b) (list_any (λ y. y == b) (range_with_len 33 94)) (passes-below 127 (λ n. not (is_info_byte n) || list_any (λ y. y == n) (range_with_len 33 94)) refl b low) is
  where
    both : (x y : Bool) → (not x || y) ≡ true → x ≡ true → y ≡ true
    both true y h e = h
    both false y h e = absurd (false≢true e)

    below_del : (b : ℕ) → is_info_byte b ≡ true → b < 127
    below_del b is =
        let three = (and_parts (nat_le 33 b && nat_le b 126 && not (b == 47)) (not (b == 58)) is).0 in
        let two = (and_parts (nat_le 33 b && nat_le b 126) (not (b == 47)) three).0 in
        let high : b ≤ 126 = leb-true b 126 (and_parts (nat_le 33 b) (nat_le b 126) two).1 in
        omega arith

-- the letters on a file are just those that stay
pub has_letter-letters_with : (letters : List ℕ) (flags b : ℕ) → has_letter (letters_with letters flags) b ≡ stays_on letters flags b
unfolding letters_with
has_letter-letters_with letters flags b =
    any-filter_same (λ y. y == b) (stays_on letters flags) (stays_on letters flags b) (λ k e. ap (stays_on letters flags) (eqb-true k b e)) (range_with_len 33 94)
    ∙ and_within (stays_on letters flags b) (list_any (λ y. y == b) (range_with_len 33 94)) (λ stays. info_byte-among b (and_parts (is_info_byte b) (is_there letters flags b (flag_told b)) stays).0)

-- five answers that agree give one byte
byte_alike : (a b c d e p q r s t : Bool) → a ≡ p → b ≡ q → c ≡ r → d ≡ s → e ≡ t → byte_of a b c d e ≡ byte_of p q r s t
byte_alike a b c d e p q r s t ap bq cr ds et = λ i. byte_of (ap i) (bq i) (cr i) (ds i) (et i)

-- they tell the flags
pub flags_told-letters_with : (letters : List ℕ) (flags : ℕ) → flags ≤ 31 → flags_told (letters_with letters flags) ≡ flags
flags_told-letters_with letters flags within =
    let below : flags < 32 = omega arith in
    let has = has_letter-letters_with letters flags in
    byte_alike _ _ _ _ _ _ _ _ _ _ (has 83) (has 82) (has 70) (has 68) (has 84)
    ∙ eqb-true _ flags (passes-below 32 (λ f. byte_of (has_flag f Seen) (has_flag f Answered) (has_flag f Flagged) (has_flag f Draft) (has_flag f Deleted) == f) refl flags below)

untold : (letters : List ℕ) (flags b : ℕ) (told : Option Flag) → is_some told ≡ false → is_there letters flags b told ≡ has_letter letters b
untold letters flags b None without = refl
untold letters flags b (Some flag) without = absurd (false≢true (sym without))

-- a letter that tells no flag stays as it was
pub has_letter-untold : (letters : List ℕ) (flags b : ℕ) → tells_flag b ≡ false → has_letter (letters_with letters flags) b ≡ (is_info_byte b && has_letter letters b)
has_letter-untold letters flags b without =
    has_letter-letters_with letters flags b ∙ ap (λ t. is_info_byte b && t) (untold letters flags b (flag_told b) without)

-- what is kept passes each test that the filter's test implies
all_kept : (p q : ℕ → Bool) → ((x : ℕ) → p x ≡ true → q x ≡ true) → (xs : List ℕ) → list_all q (filter p xs) ≡ true
all_kept p q implies [] = refl
all_kept p q implies (x ∷ xs) =
    elim (p x) as (λ t. p x ≡ t → list_all q (cond t (x ∷ filter p xs) (filter p xs)) ≡ true) [
      | true ↦ λ is. and_from (q x) (list_all q (filter p xs)) (implies x is) (all_kept p q implies xs)
      | false ↦ λ _. all_kept p q implies xs
    ] refl

pub letters_with-each : (letters : List ℕ) (flags : ℕ) → list_all is_info_byte (letters_with letters flags) ≡ true
unfolding letters_with
letters_with-each letters flags = all_kept (stays_on letters flags) is_info_byte (λ b stays. (and_parts (is_info_byte b) (is_there letters flags b (flag_told b)) stays).0) (range_with_len 33 94)

-- one more of the letters that are tried
pub one_more_letter : (p : ℕ → Bool) (a n j : ℕ) → a + n ≡ j → filter p (range_with_len a (n + 1)) ≡ filter p (range_with_len a n) ++ cond (p j) (j ∷ []) []
one_more_letter p a zero j is = let same : a ≡ j = omega arith in rw same refl
one_more_letter p a (suc n) j is =
    let next : (a + 1) + n ≡ j = omega arith in
    let rest = one_more_letter p (a + 1) n j next in
    let more : suc n + 1 ≡ suc (n + 1) = omega arith in
    rw more (rw rest (
    elim (p a) as (λ t. cond t (a ∷ (filter p (range_with_len (a + 1) n) ++ cond (p j) (j ∷ []) [])) (filter p (range_with_len (a + 1) n) ++ cond (p j) (j ∷ []) []) ≡ cond t (a ∷ filter p (range_with_len (a + 1) n)) (filter p (range_with_len (a + 1) n)) ++ cond (p j) (j ∷ []) []) [
      | true ↦ refl
      | false ↦ refl
    ]
    ))

-- all of them have been tried
pub all_tried : (letters : List ℕ) (flags : ℕ) (text : List ℕ) (n : ℕ) → n ≡ 94 → text ≡ filter (stays_on letters flags) (range_with_len 33 n) → text ≡ letters_with letters flags
unfolding letters_with
all_tried letters flags text n is tried = tried ∙ ap (λ k. filter (stays_on letters flags) (range_with_len 33 k)) is
