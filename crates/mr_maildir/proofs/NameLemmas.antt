-- a name's parts
use Rattle.std.proofs.Common.{◌≡◌, ◌≢◌, ℕ, ◌<◌, true, false, not, List, [], ◌∷◌, ◌++◌, length, get_or, refl, sym, ap, ◌∙◌, Option, Some, None, IfSome, IfNone, arith, lit<}
use Rattle.mr_maildir.proofs.Names.{AreParts, Bor, HasLetters, IsName, IsSplitOnceResult, LacksLetters, MatchOption, NameParts, and_from, and_parts, eqb-true}
use Rattle.mr_maildir.proofs.Names.{false≢true, info_text, is_info_byte, is_safe_byte, lacks_colon, list_all, name_text, split_parts, ◌==◌}
use Rattle.mr_maildir.proofs.ByteLemmas.{lacks-from, first_byte}

append_nothing : (text : List ℕ) → text ++ [] ≡ text
append_nothing [] = refl
append_nothing (x ∷ xs) = ap (λ rest. x ∷ rest) (append_nothing xs)

-- the parts of a name that ends in letters are the only ones
pub one_name : (unique letters : List ℕ) (parts : NameParts) → HasLetters unique letters → IsName parts → name_text parts ≡ unique ++ 58 ∷ 50 ∷ 44 ∷ letters → parts ≡ record { unique = unique; letters = Some letters }
one_name unique letters parts has is e = go parts.unique parts.letters is e
  where
    go : (u : List ℕ) (ls : Option (List ℕ)) → AreParts u ls → u ++ info_text ls ≡ unique ++ 58 ∷ 50 ∷ 44 ∷ letters → ◌≡◌ {A = NameParts} (record { unique = u; letters = ls }) (record { unique = unique; letters = Some letters })
    go u None lacks same = absurd (lacks unique letters has (sym (append_nothing u) ∙ same))
    go u (Some ls) found same =
        let parted = first_byte 58 u (50 ∷ 44 ∷ ls) unique (50 ∷ 44 ∷ letters) found.colon has.colon same in
        let us : u ≡ unique = parted.0 in
        let tail : 50 ∷ 44 ∷ ls ≡ 50 ∷ 44 ∷ letters = parted.1 in
        let lets : ls ≡ letters = cc in
        λ i. record { unique = us i; letters = Some (lets i) }

-- what `split_once` finds
pub before_lacks_colon : (name : List ℕ) (r : Option (Bor (List ℕ) × Bor (List ℕ))) → IsSplitOnceResult 58 name r → IfSome r (λ p. lacks_colon p.0.now ≡ true)
before_lacks_colon name r cases = go r (split_parts 58 name r cases (lit< tt))
  where
    go : (r : Option (Bor (List ℕ) × Bor (List ℕ))) → MatchOption r ((i : ℕ) → i < length name → get_or name i 0 ≢ 58) (λ x. (name ≡ x.0.now ++ (58 ∷ x.1.now)) × ((i : ℕ) → i < length x.0.now → get_or x.0.now i 0 ≢ 58)) → IfSome r (λ p. lacks_colon p.0.now ≡ true)
    go None h = tt
    go (Some x) h = lacks-from 58 x.0.now h.1

at_colon : (before behind : List ℕ) → get_or (before ++ 58 ∷ behind) (length before) 0 ≡ 58
at_colon [] behind = refl
at_colon (x ∷ xs) behind = at_colon xs behind

within : (before behind : List ℕ) → length before < length (before ++ 58 ∷ behind)
within [] behind = omega arith
within (x ∷ xs) behind = let rest = within xs behind in omega arith

pub no_first_colon : (name : List ℕ) (r : Option (Bor (List ℕ) × Bor (List ℕ))) → IsSplitOnceResult 58 name r → IfNone r ((before behind : List ℕ) → name ≢ before ++ 58 ∷ behind)
no_first_colon name r cases = go r (split_parts 58 name r cases (lit< tt))
  where
    go : (r : Option (Bor (List ℕ) × Bor (List ℕ))) → MatchOption r ((i : ℕ) → i < length name → get_or name i 0 ≢ 58) (λ x. (name ≡ x.0.now ++ (58 ∷ x.1.now)) × ((i : ℕ) → i < length x.0.now → get_or x.0.now i 0 ≢ 58)) → IfNone r ((before behind : List ℕ) → name ≢ before ++ 58 ∷ behind)
    go None h = λ before behind is.
        let below : length before < length name = rw is (within before behind) in
        let there : get_or name (length before) 0 ≡ 58 = rw is (at_colon before behind) in
        h (length before) below there
    go (Some x) h = tt

-- a safe name has no colon
safe_byte : (b : ℕ) → is_safe_byte b ≡ true → not (b == 58) ≡ true
safe_byte b safe =
    elim (b == 58) as (λ t. (b == 58) ≡ t → not t ≡ true) [
      | true ↦ λ is. let wrong : is_safe_byte 58 ≡ true = rw (eqb-true b 58 is) at safe in absurd (false≢true wrong)
      | false ↦ λ _. refl
    ] refl

pub safe_lacks_colon : (text : List ℕ) → list_all is_safe_byte text ≡ true → lacks_colon text ≡ true
safe_lacks_colon [] safe = refl
safe_lacks_colon (b ∷ bs) safe =
    let parts = and_parts (is_safe_byte b) (list_all is_safe_byte bs) safe in
    and_from (not (b == 58)) (lacks_colon bs) (safe_byte b parts.0) (safe_lacks_colon bs parts.1)

-- what stands behind the first colon decides whether a name ends in letters
pub no_letters : (name unique info : List ℕ) → name ≡ unique ++ 58 ∷ info → lacks_colon unique ≡ true → ((letters : List ℕ) → list_all is_info_byte letters ≡ true → info ≢ 50 ∷ 44 ∷ letters) → LacksLetters name
no_letters name unique info written first none u ls has e =
    none ls has.each (first_byte 58 unique info u (50 ∷ 44 ∷ ls) first has.colon (sym written ∙ e)).1
