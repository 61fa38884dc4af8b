-- texts as a list shows them
use Rattle.std.proofs.Common.{◌≡◌, ℕ, ◌/◌, ◌%◌, ◌<◌, Bool, true, false, not, cond, ◌&&◌, ◌||◌, List, [], ◌∷◌, ◌++◌, map, refl, sym, ap, ◌∙◌, inl, inr, arith, append_assoc}
use Rattle.mr_maildir.proofs.Names.{and_from, and_parts, cases_Bool, encode_utf8_all, eq-eqb, eqb-false, eqb-true, false≢true, flat_map, join_with_byte}
use Rattle.mr_maildir.proofs.Names.{leb-true, list_all, nat_le, or_cases, passes-below, passes_below, printed_char, printed_chars, spaced, ◌==◌}
use Rattle.std.specs.Char.{is_control, digit_char}
use Rattle.std.proofs.lemmas.Str.{encodes-append}

-- one character more
pub printed-flat : (cs : List ℕ) → flat_map (λ c. encode_utf8_all (printed_char c)) cs ≡ encode_utf8_all (printed_chars cs)
printed-flat [] = refl
printed-flat (c ∷ cs) =
    ap (λ bs. encode_utf8_all (printed_char c) ++ bs) (printed-flat cs) ∙ sym (encodes-append (printed_char c) (printed_chars cs))

-- labels with commas between them
pub comma_joined : (first : List ℕ) (others : List (List ℕ)) → first ++ flat_map (λ label. 44 ∷ label) others ≡ join_with_byte 44 (first ∷ others)
comma_joined first [] = append_nothing first
  where
    append_nothing : (xs : List ℕ) → xs ++ [] ≡ xs
    append_nothing [] = refl
    append_nothing (y ∷ ys) = ap (λ l. y ∷ l) (append_nothing ys)
comma_joined first (label ∷ others) = ap (λ l. first ++ 44 ∷ l) (comma_joined label others)

-- six texts with tabs between them, one after another
six_fields : (a b c d e f : List ℕ) → ((((a ++ 9 ∷ b) ++ 9 ∷ c) ++ 9 ∷ d) ++ 9 ∷ e) ++ 9 ∷ f ≡ join_with_byte 9 (a ∷ b ∷ c ∷ d ∷ e ∷ f ∷ [])
six_fields a b c d e f =
    append_assoc (((a ++ 9 ∷ b) ++ 9 ∷ c) ++ 9 ∷ d) (9 ∷ e) (9 ∷ f)
    ∙ (append_assoc ((a ++ 9 ∷ b) ++ 9 ∷ c) (9 ∷ d) (9 ∷ (e ++ 9 ∷ f))
    ∙ (append_assoc (a ++ 9 ∷ b) (9 ∷ c) (9 ∷ (d ++ 9 ∷ (e ++ 9 ∷ f)))
    ∙ append_assoc a (9 ∷ b) (9 ∷ (c ++ 9 ∷ (d ++ 9 ∷ (e ++ 9 ∷ f))))))

pub line_made : (l0 l1 l2 l3 l4 l5 a b c d e f : List ℕ) → l0 ≡ a → l1 ≡ l0 ++ 9 ∷ b → l2 ≡ l1 ++ 9 ∷ c → l3 ≡ l2 ++ 9 ∷ d → l4 ≡ l3 ++ 9 ∷ e → l5 ≡ l4 ++ 9 ∷ f → l5 ≡ join_with_byte 9 (a ∷ b ∷ c ∷ d ∷ e ∷ f ∷ [])
line_made l0 l1 l2 l3 l4 l5 a b c d e f e0 e1 e2 e3 e4 e5 =
    let p1 = e1 ∙ ap (λ l. l ++ 9 ∷ b) e0 in
    let p2 = e2 ∙ ap (λ l. l ++ 9 ∷ c) p1 in
    let p3 = e3 ∙ ap (λ l. l ++ 9 ∷ d) p2 in
    let p4 = e4 ∙ ap (λ l. l ++ 9 ∷ e) p3 in
    e5 ∙ (ap (λ l. l ++ 9 ∷ f) p4 ∙ six_fields a b c d e f)

-- ---- no control character comes out

all_append : (p : ℕ → Bool) (xs ys : List ℕ) → list_all p xs ≡ true → list_all p ys ≡ true → list_all p (xs ++ ys) ≡ true
all_append p [] ys one two = two
all_append p (x ∷ xs) ys one two =
    let parts = and_parts (p x) (list_all p xs) one in
    and_from (p x) (list_all p (xs ++ ys)) parts.0 (all_append p xs ys parts.1 two)

-- control characters are below 160
control_below : (c : ℕ) → is_control c ≡ true → c < 160
control_below c is =
    elim (or_cases (nat_le 0 c && nat_le c 31) (nat_le 127 c && nat_le c 159) is) [
      | inl low ↦ let top = leb-true c 31 (and_parts (nat_le 0 c) (nat_le c 31) low).1 in omega arith
      | inr high ↦ let top = leb-true c 159 (and_parts (nat_le 127 c) (nat_le c 159) high).1 in omega arith
    ]

digit_visible : (d : ℕ) → d < 16 → not (is_control (digit_char d)) ≡ true
digit_visible d below = passes-below 16 (λ n. not (is_control (digit_char n))) refl d below

char_plain : (c : ℕ) → list_all (λ x. not (is_control x)) (printed_char c) ≡ true
char_plain c =
    elim (c == 9) as (λ t. list_all (λ x. not (is_control x)) (cond t (32 ∷ []) (cond (c == 92) (92 ∷ 92 ∷ []) (cond (is_control c) (92 ∷ 120 ∷ digit_char (c / 16) ∷ digit_char (c % 16) ∷ []) (c ∷ [])))) ≡ true) [
      | true ↦ refl
      | false ↦ elim (c == 92) as (λ t. list_all (λ x. not (is_control x)) (cond t (92 ∷ 92 ∷ []) (cond (is_control c) (92 ∷ 120 ∷ digit_char (c / 16) ∷ digit_char (c % 16) ∷ []) (c ∷ []))) ≡ true) [
        | true ↦ refl
        | false ↦ elim (is_control c) as (λ t. is_control c ≡ t → list_all (λ x. not (is_control x)) (cond t (92 ∷ 120 ∷ digit_char (c / 16) ∷ digit_char (c % 16) ∷ []) (c ∷ [])) ≡ true) [
          | true ↦ λ is.
              let below = control_below c is in
              let high : c / 16 < 16 = omega arith in
              let low : c % 16 < 16 = omega arith in
              and_from (not (is_control (digit_char (c / 16)))) (not (is_control (digit_char (c % 16))) && true) (digit_visible (c / 16) high)
              (and_from (not (is_control (digit_char (c % 16)))) true (digit_visible (c % 16) low) refl)
          | false ↦ λ isnt. and_from (not (is_control c)) true (ap not isnt) refl
        ] refl
      ]
    ]

pub printed-plain : (cs : List ℕ) → list_all (λ c. not (is_control c)) (printed_chars cs) ≡ true
printed-plain [] = refl
printed-plain (c ∷ cs) = all_append (λ x. not (is_control x)) (printed_char c) (printed_chars cs) (char_plain c) (printed-plain cs)

-- ---- texts that look alike

-- how a character is shown: as one that is no backslash, as two backslashes, or by its code
data Shape (c : ℕ) : Type 0 where
  alone : printed_char c ≡ spaced c ∷ [] → (spaced c ≡ 92 → ⊥) → Shape c
  doubled : c ≡ 92 → printed_char c ≡ 92 ∷ 92 ∷ [] → Shape c
  coded : c < 160 → spaced c ≡ c → printed_char c ≡ 92 ∷ 120 ∷ digit_char (c / 16) ∷ digit_char (c % 16) ∷ [] → Shape c

shape : (c : ℕ) → Shape c
shape c =
    elim (cases_Bool (c == 9)) [
      | inl tab ↦
          let same : c ≡ 9 = eqb-true c 9 tab in
          alone (ap printed_char same ∙ ap (λ x. spaced x ∷ []) (sym same)) (λ wrong. let fails : 32 ≡ 92 = sym (ap spaced same) ∙ wrong in absurd (omega arith))
      | inr other ↦
          let spaced_so : spaced c ≡ c = ap (λ t. cond t 32 c) other in
          let past_tab : printed_char c ≡ cond (c == 92) (92 ∷ 92 ∷ []) (cond (is_control c) (92 ∷ 120 ∷ digit_char (c / 16) ∷ digit_char (c % 16) ∷ []) (c ∷ [])) =
          ap (λ t. cond t (32 ∷ []) (cond (c == 92) (92 ∷ 92 ∷ []) (cond (is_control c) (92 ∷ 120 ∷ digit_char (c / 16) ∷ digit_char (c % 16) ∷ []) (c ∷ [])))) other in
          elim (cases_Bool (c == 92)) [
            | inl back ↦ doubled (eqb-true c 92 back) (past_tab ∙ ap (λ t. cond t (92 ∷ 92 ∷ []) (cond (is_control c) (92 ∷ 120 ∷ digit_char (c / 16) ∷ digit_char (c % 16) ∷ []) (c ∷ []))) back)
            | inr no_back ↦
                let past_back : printed_char c ≡ cond (is_control c) (92 ∷ 120 ∷ digit_char (c / 16) ∷ digit_char (c % 16) ∷ []) (c ∷ []) =
                past_tab ∙ ap (λ t. cond t (92 ∷ 92 ∷ []) (cond (is_control c) (92 ∷ 120 ∷ digit_char (c / 16) ∷ digit_char (c % 16) ∷ []) (c ∷ []))) no_back in
                elim (cases_Bool (is_control c)) [
                  | inl is ↦ coded (control_below c is) spaced_so (past_back ∙ ap (λ t. cond t (92 ∷ 120 ∷ digit_char (c / 16) ∷ digit_char (c % 16) ∷ []) (c ∷ [])) is)
                  | inr isnt ↦
                      alone (past_back ∙ (ap (λ t. cond t (92 ∷ 120 ∷ digit_char (c / 16) ∷ digit_char (c % 16) ∷ []) (c ∷ [])) isnt ∙ ap (λ x. x ∷ []) (sym spaced_so)))
                      (λ wrong. eqb-false c 92 no_back (sym spaced_so ∙ wrong))
                ]
          ]
    ]

-- digits that look alike are of one number
one_digit : (a b : ℕ) → a < 16 → b < 16 → digit_char a ≡ digit_char b → a ≡ b
one_digit a b below under same =
    let table : (not (digit_char a == digit_char b) || (a == b)) ≡ true =
    passes-below 16 (λ n. not (digit_char a == digit_char n) || (a == n)) (passes-below 16 (λ m. passes_below 16 (λ n. not (digit_char m == digit_char n) || (m == n))) refl a below) b under in
    eqb-true a b (elim (or_cases (not (digit_char a == digit_char b)) (a == b) table) [
      | inl differ ↦ absurd (false≢true (sym (ap not (eq-eqb (digit_char a) (digit_char b) same)) ∙ differ))
      | inr is ↦ is
    ])

-- what begins alike has a first character that looks alike, and goes on alike
first_alike : (c d : ℕ) (xs ys : List ℕ) → Shape c → Shape d → printed_char c ++ xs ≡ printed_char d ++ ys → (spaced c ≡ spaced d) × (xs ≡ ys)
first_alike c d xs ys (alone one _) (alone two _) e =
    let same : spaced c ∷ xs ≡ spaced d ∷ ys = sym (ap (λ l. l ++ xs) one) ∙ (e ∙ ap (λ l. l ++ ys) two) in
    let heads : spaced c ≡ spaced d = cc in
    let tails : xs ≡ ys = cc in
    (heads, tails)
first_alike c d xs ys (alone one fails) (doubled is two) e =
    let same : spaced c ∷ xs ≡ 92 ∷ 92 ∷ ys = sym (ap (λ l. l ++ xs) one) ∙ (e ∙ ap (λ l. l ++ ys) two) in
    let head : spaced c ≡ 92 = cc in
    absurd (fails head)
first_alike c d xs ys (alone one fails) (coded below is two) e =
    let same : spaced c ∷ xs ≡ 92 ∷ 120 ∷ digit_char (d / 16) ∷ digit_char (d % 16) ∷ ys = sym (ap (λ l. l ++ xs) one) ∙ (e ∙ ap (λ l. l ++ ys) two) in
    let head : spaced c ≡ 92 = cc in
    absurd (fails head)
first_alike c d xs ys (doubled is one) (alone two fails) e =
    let same : 92 ∷ 92 ∷ xs ≡ spaced d ∷ ys = sym (ap (λ l. l ++ xs) one) ∙ (e ∙ ap (λ l. l ++ ys) two) in
    let head : spaced d ≡ 92 = cc in
    absurd (fails head)
first_alike c d xs ys (doubled is one) (doubled also two) e =
    let same : 92 ∷ 92 ∷ xs ≡ 92 ∷ 92 ∷ ys = sym (ap (λ l. l ++ xs) one) ∙ (e ∙ ap (λ l. l ++ ys) two) in
    let tails : xs ≡ ys = cc in
    (ap spaced (is ∙ sym also), tails)
first_alike c d xs ys (doubled is one) (coded below also two) e =
    let same : 92 ∷ 92 ∷ xs ≡ 92 ∷ 120 ∷ digit_char (d / 16) ∷ digit_char (d % 16) ∷ ys = sym (ap (λ l. l ++ xs) one) ∙ (e ∙ ap (λ l. l ++ ys) two) in
    let wrong : ◌≡◌ {A = ℕ} 92 120 = cc in
    absurd (omega arith)
first_alike c d xs ys (coded below is one) (alone two fails) e =
    let same : 92 ∷ 120 ∷ digit_char (c / 16) ∷ digit_char (c % 16) ∷ xs ≡ spaced d ∷ ys = sym (ap (λ l. l ++ xs) one) ∙ (e ∙ ap (λ l. l ++ ys) two) in
    let head : spaced d ≡ 92 = cc in
    absurd (fails head)
first_alike c d xs ys (coded below is one) (doubled also two) e =
    let same : 92 ∷ 120 ∷ digit_char (c / 16) ∷ digit_char (c % 16) ∷ xs ≡ 92 ∷ 92 ∷ ys = sym (ap (λ l. l ++ xs) one) ∙ (e ∙ ap (λ l. l ++ ys) two) in
    let wrong : ◌≡◌ {A = ℕ} 120 92 = cc in
    absurd (omega arith)
first_alike c d xs ys (coded below is one) (coded under also two) e =
    let same : 92 ∷ 120 ∷ digit_char (c / 16) ∷ digit_char (c % 16) ∷ xs ≡ 92 ∷ 120 ∷ digit_char (d / 16) ∷ digit_char (d % 16) ∷ ys = sym (ap (λ l. l ++ xs) one) ∙ (e ∙ ap (λ l. l ++ ys) two) in
    let highs : digit_char (c / 16) ≡ digit_char (d / 16) = cc in
    let lows : digit_char (c % 16) ≡ digit_char (d % 16) = cc in
    let tails : xs ≡ ys = cc in
    let high : c / 16 ≡ d / 16 = one_digit (c / 16) (d / 16) (omega arith) (omega arith) highs in
    let low : c % 16 ≡ d % 16 = one_digit (c % 16) (d % 16) (omega arith) (omega arith) lows in
    let one_char : c ≡ d = omega arith in
    (ap spaced one_char, tails)

some_shown : (c : ℕ) (xs : List ℕ) → Shape c → [] ≡ printed_char c ++ xs → ⊥
some_shown c xs (alone one _) e = let wrong : [] ≡ spaced c ∷ xs = e ∙ ap (λ l. l ++ xs) one in cc
some_shown c xs (doubled _ one) e = let wrong : [] ≡ 92 ∷ 92 ∷ xs = e ∙ ap (λ l. l ++ xs) one in cc
some_shown c xs (coded _ _ one) e = let wrong : [] ≡ 92 ∷ 120 ∷ digit_char (c / 16) ∷ digit_char (c % 16) ∷ xs = e ∙ ap (λ l. l ++ xs) one in cc

-- texts that look alike are one, but for tabs and spaces
pub look_alike : (a b : List ℕ) → printed_chars a ≡ printed_chars b → map spaced a ≡ map spaced b
look_alike [] [] e = refl
look_alike [] (d ∷ b) e = absurd (some_shown d (printed_chars b) (shape d) e)
look_alike (c ∷ a) [] e = absurd (some_shown c (printed_chars a) (shape c) (sym e))
look_alike (c ∷ a) (d ∷ b) e =
    let both = first_alike c d (printed_chars a) (printed_chars b) (shape c) (shape d) e in
    let rest = look_alike a b both.1 in
    λ i. both.0 i ∷ rest i
