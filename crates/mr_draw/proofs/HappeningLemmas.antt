-- what a list of answers shows
use Rattle.std.proofs.Common.{◌≡◌, ℕ, ◌+◌, ap, List, [], ◌∷◌, refl}
use Rattle.mr_draw.proofs.Names.{Answered, NoteLists, cons_option, enumerate_from, filter_map, happening_at, happenings_from}

-- each shows what it shows at its place
pub shown_by_place : (notes : NoteLists) (n : ℕ) (xs : List Answered) → filter_map (λ (p : ℕ × Answered). happening_at notes p.0 p.1) (enumerate_from n xs) ≡ happenings_from notes n xs
shown_by_place notes n [] = refl
shown_by_place notes n (x ∷ xs) = ap (λ hs. cons_option (happening_at notes n x) hs) (shown_by_place notes (n + 1) xs)
