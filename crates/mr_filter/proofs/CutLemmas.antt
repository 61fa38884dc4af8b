-- where a text is cut
use Rattle.std.proofs.Common.{◌≡◌, ℕ, suc, ◌<◌, ◌≤◌, length, take, drop, take-append-drop, subst, arith, Bool, false, eqb, List, [], ◌∷◌, ◌++◌, refl, sym, ◌∙◌, ap}
use Rattle.mr_filter.proofs.Names.{AllByRecursion, cut_at, eq-eqb, eqb-true, is_separator, join_or, onto_first}
use Rattle.std.specs.Str.Pattern.{LacksTextAt, HasTextAt}

-- whether a text begins with the mark between two spaces
abbrev pub begins : ℕ → List ℕ → Bool
begins mark (a ∷ b ∷ c ∷ rest) = is_separator mark a b c
begins mark _ = false

-- no byte is the mark
abbrev pub Lacks : ℕ → List ℕ → Type 0
Lacks mark = AllByRecursion (λ b. eqb b mark ≡ false)

-- a text that begins with no separator is cut as what follows its first byte
pub cut_at-other : (mark a : ℕ) (tail : List ℕ) → begins mark (a ∷ tail) ≡ false → cut_at mark (a ∷ tail) ≡ onto_first a (cut_at mark tail)
cut_at-other mark a tail other = grind arith

-- a separator is cut out
pub cut_at-separator : (mark : ℕ) (rest : List ℕ) → cut_at mark (32 ∷ mark ∷ 32 ∷ rest) ≡ [] ∷ cut_at mark rest
cut_at-separator mark rest = grind (arith, eq-eqb)

-- where the second byte is not the mark, no separator begins
begins-second : (mark a b : ℕ) (tail : List ℕ) → eqb b mark ≡ false → begins mark (a ∷ b ∷ tail) ≡ false
begins-second mark a b tail other = grind (arith, eqb)

-- a piece without the mark is cut off whole
pub cut_at-piece : (mark : ℕ) → eqb 32 mark ≡ false → (piece rest : List ℕ) → Lacks mark piece → cut_at mark (piece ++ (32 ∷ mark ∷ 32 ∷ rest)) ≡ piece ∷ cut_at mark rest
cut_at-piece mark space [] rest lacks = cut_at-separator mark rest
cut_at-piece mark space (a ∷ []) rest lacks =
    cut_at-other mark a (32 ∷ mark ∷ 32 ∷ rest) (begins-second mark a 32 (mark ∷ 32 ∷ rest) space) ∙ ap (onto_first a) (cut_at-separator mark rest)
cut_at-piece mark space (a ∷ b ∷ piece) rest lacks =
    cut_at-other mark a (b ∷ (piece ++ (32 ∷ mark ∷ 32 ∷ rest))) (begins-second mark a b (piece ++ (32 ∷ mark ∷ 32 ∷ rest)) lacks.1.0)
    ∙ ap (onto_first a) (cut_at-piece mark space (b ∷ piece) rest lacks.1)

-- a text without the mark is one piece
pub cut_at-last : (mark : ℕ) (piece : List ℕ) → Lacks mark piece → cut_at mark piece ≡ piece ∷ []
cut_at-last mark [] lacks = refl
cut_at-last mark (a ∷ []) lacks = refl
cut_at-last mark (a ∷ b ∷ piece) lacks =
    cut_at-other mark a (b ∷ piece) (begins-second mark a b piece lacks.1.0) ∙ ap (onto_first a) (cut_at-last mark (b ∷ piece) lacks.1)

-- pieces without the mark are what their text is cut into
pub cut_at-join_or : (mark : ℕ) → eqb 32 mark ≡ false → (none piece : List ℕ) (more : List (List ℕ)) → AllByRecursion (Lacks mark) (piece ∷ more) → cut_at mark (join_or none (32 ∷ mark ∷ 32 ∷ []) (piece ∷ more)) ≡ piece ∷ more
cut_at-join_or mark space none piece [] lacks = cut_at-last mark piece lacks.0
cut_at-join_or mark space none piece (next ∷ more) lacks = grind (arith, cut_at-join_or mark space none next more lacks.1, cut_at-piece)

-- where a text doesn't begin with a separator, it has none at its begin
begins-lacks : (mark : ℕ) (text : List ℕ) → LacksTextAt (32 ∷ mark ∷ 32 ∷ []) text 0 → begins mark text ≡ false
begins-lacks mark text lacks = grind (arith, eqb, eqb-true)

-- a text is cut at the first separator
pub cut_at-first : (mark : ℕ) (front rest : List ℕ) → ((i : ℕ) → i < length front → LacksTextAt (32 ∷ mark ∷ 32 ∷ []) (front ++ (32 ∷ mark ∷ 32 ∷ rest)) i) → cut_at mark (front ++ (32 ∷ mark ∷ 32 ∷ rest)) ≡ front ∷ cut_at mark rest
cut_at-first mark [] rest lacks = cut_at-separator mark rest
cut_at-first mark (a ∷ front) rest lacks =
    cut_at-other mark a (front ++ (32 ∷ mark ∷ 32 ∷ rest)) (begins-lacks mark (a ∷ (front ++ (32 ∷ mark ∷ 32 ∷ rest))) (lacks 0 (omega arith)))
    ∙ ap (onto_first a) (cut_at-first mark front rest (λ i below. lacks (suc i) (omega arith)))

-- and a text without one is one piece
pub cut_at-none : (mark : ℕ) (text : List ℕ) → ((i : ℕ) → i ≤ length text → LacksTextAt (32 ∷ mark ∷ 32 ∷ []) text i) → cut_at mark text ≡ text ∷ []
cut_at-none mark [] lacks = refl
cut_at-none mark (a ∷ text) lacks =
    cut_at-other mark a text (begins-lacks mark (a ∷ text) (lacks 0 (omega arith)))
    ∙ ap (onto_first a) (cut_at-none mark text (λ i below. lacks (suc i) (omega arith)))

-- what a search for a separator finds is where the text is cut
pub cut_at-found : (mark : ℕ) (separator text piece rest : List ℕ) (i j : ℕ) → separator ≡ 32 ∷ mark ∷ 32 ∷ [] → ((k : ℕ) → k < i → LacksTextAt separator text k) → HasTextAt separator text i j → piece ≡ take i text → rest ≡ drop j text → length piece ≡ i → cut_at mark text ≡ piece ∷ cut_at mark rest
cut_at-found mark separator text piece rest i j is lacks has front back long =
    let whole : text ≡ piece ++ (32 ∷ mark ∷ 32 ∷ rest) =
    sym (take-append-drop i text) ∙ (λ k. sym front k ++ (has.split ∙ (λ m. is m ++ sym back m)) k) in
    let none : (k : ℕ) → k < length piece → LacksTextAt (32 ∷ mark ∷ 32 ∷ []) (piece ++ (32 ∷ mark ∷ 32 ∷ rest)) k =
    λ k below. subst (λ t. LacksTextAt (32 ∷ mark ∷ 32 ∷ []) t k) whole (subst (λ n. LacksTextAt n text k) is (lacks k (omega arith))) in
    ap (cut_at mark) whole ∙ cut_at-first mark piece rest none

pub cut_at-nowhere : (mark : ℕ) (separator text : List ℕ) → separator ≡ 32 ∷ mark ∷ 32 ∷ [] → ((k : ℕ) → k ≤ length text → LacksTextAt separator text k) → cut_at mark text ≡ text ∷ []
cut_at-nowhere mark separator text is lacks = cut_at-none mark text (λ k below. subst (λ n. LacksTextAt n text k) is (lacks k below))
