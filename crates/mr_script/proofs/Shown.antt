-- a line that has been read already, up to its line feed
use Rattle.std.proofs.Common.{◌≡◌, ◌≢◌, ℕ, ◌+◌, ◌-◌, ◌<◌, ◌≤◌, Bool, true, false, cond, List, [], ◌++◌, All, Option, None, Some, IfSome, length, take, get_or, get_or-take, length-take-le, refl, sym, ap, subst, ◌∙◌, arith, le_refl, eq-eqb, eqb-true}
use Rattle.mr_script.proofs.Names.{All-from_get_or, All-nil, Consumes, DropsConsumable, DropsThrough, IsFirstByte, Keeps, StopsAt-take, is_byte}
use Rattle.mr_script.proofs.Names.{prepend_known, starts_with_of_append, take_through}
use Rattle.std.specs.Io.{StartsWith, StopsAt, IsEmptyOrEndsWith}
use Rattle.std.proofs.BufReadLemmas.{Consumes_shown, Consumes_through}
use Rattle.std.proofs.KnownBytes.{Consumes-nil}

-- the known bytes of a reader begin with what its buffer shows
pub shown_first : (shown : List ℕ) (unknown : Bool) (behind : Option (List ℕ)) → IfSome (cond unknown None (prepend_known shown behind)) (λ xs. StartsWith xs shown)
shown_first shown true behind = tt
shown_first shown false None = tt
shown_first shown false (Some rest) = starts_with_of_append (shown ++ rest) shown rest refl

kept : (known : Option (List ℕ)) → Keeps known known
kept None = tt
kept (Some xs) = refl

fits : (known : Option (List ℕ)) (n : ℕ) → IfSome known (λ _. n ≤ n)
fits None n = tt
fits (Some xs) n = le_refl n

not_at_end : (known : Option (List ℕ)) (n : ℕ) → 0 < n → IfSome known (λ xs. n ≡ 0 → xs ≡ [])
not_at_end None n some = tt
not_at_end (Some xs) n some = λ none. absurd (omega (arith, some, none))

-- taking what is shown up to the first line feed takes the line
pub line_shown : (shown : List ℕ) (place : ℕ) (known left : Option (List ℕ)) → IsFirstByte (is_byte 10) shown (Some place)
    → IfSome known (λ xs. StartsWith xs shown) → DropsConsumable known left (Some (length shown)) (place + 1)
    → Consumes known left (take (place + 1) shown) × IfSome known (λ xs. take (place + 1) shown ≡ take_through 10 xs) × DropsThrough known left 10
line_shown shown place known left found front drops =
    let within : place < length shown = found.0.high in
    let part = take (place + 1) shown in
    let long : length part ≡ place + 1 = length-take-le (place + 1) shown (omega (arith, within)) in
    let none : All (λ x. x ≢ 10) (take place shown) =
    All-from_get_or (λ x. x ≢ 10) (take place shown) 0 (λ i lt.
    let below : i < place = omega (arith, lt, length-take-le place shown (omega (arith, within))) in
    subst (λ x. x ≢ 10) (sym (get_or-take place shown i 0 below)) (λ e. found.0.before i (omega arith) below (eq-eqb _ _ e))) in
    let stops : StopsAt part 10 = StopsAt-take shown 10 (place + 1) (omega (arith, within)) (subst (λ k. All (λ x. x ≢ 10) (take k shown)) {x = place} {y = place + 1 - 1} (omega arith) none) in
    let last : get_or shown (place + 1 - 1) 0 ≡ 10 = subst (λ k. get_or shown k 0 ≡ 10) {x = place} {y = place + 1 - 1} (omega arith) (eqb-true _ _ found.1) in
    let ends : IsEmptyOrEndsWith part 10 = λ _. ap (λ n. get_or part (n - 1) 0) long ∙ get_or-take (place + 1) shown (place + 1 - 1) 0 (omega arith) ∙ last in
    let gone = Consumes_shown known known left (Some (length shown)) shown (place + 1) (omega (arith, within)) front (not_at_end known (length shown) (omega (arith, within))) (kept known) (fits known (length shown)) drops in
    let through = Consumes_through 10 known known left [] part (Consumes-nil known) (All-nil (λ x. x ≢ 10)) gone.0 stops ends (λ nothing. absurd (omega (arith, nothing, long))) in
    (gone.0, through.0, through.1)

-- what is appended is the line
pub appended_line : (known : Option (List ℕ)) (old part new : List ℕ) → new ≡ old ++ part → IfSome known (λ xs. part ≡ take_through 10 xs) → IfSome known (λ xs. new ≡ old ++ take_through 10 xs)
appended_line None old part new items is = tt
appended_line (Some xs) old part new items is = items ∙ ap (λ l. old ++ l) is
