-- folders in memory that change once
use Rattle.std.proofs.Common.{◌≡◌, ℕ, ◌+◌, ◌<◌, List, [], ◌∷◌, ◌++◌, length, get_or, take, map, string_bytes, Vec, sym, ap, ◌∙◌, arith}
use Rattle.mr_folder.proofs.Names.{Global, String, get_or-map, get_or_default, map-append, take_more, texts}
use Rattle.mr_folder.proofs.QuietLemmas.{length-texts}

-- the names in one of the folders
pub texts_at : (folders : List (Vec (String Global) Global)) (i : ℕ) (v : Vec (String Global) Global) → i < length folders → v ≡ get_or folders i v → get_or (texts folders) i [] ≡ map (λ s. string_bytes s) v.items
texts_at folders i v lt is =
    let long = length-texts folders in
    get_or_default (texts folders) i [] (map (λ s. string_bytes s) v.items) (omega arith)
    ∙ (get_or-map (λ w. map (λ s. string_bytes s) w.items) folders i v ∙ ap (λ w. map (λ s. string_bytes s) w.items) (sym is))

-- one more name
pub more_names : (xs : List (String Global)) (i : ℕ) (x : String Global) (old new : List (List ℕ)) → i < length xs → x ≡ get_or xs i x → old ≡ map (λ s. string_bytes s) (take i xs) → new ≡ old ++ string_bytes x ∷ [] → new ≡ map (λ s. string_bytes s) (take (i + 1) xs)
more_names xs i x old new lt is were now =
    now
    ∙ (ap (λ l. l ++ string_bytes x ∷ []) were
    ∙ (sym (map-append (λ s. string_bytes s) (take i xs) (x ∷ [])) ∙ ap (λ l. map (λ s. string_bytes s) l) (ap (λ y. take i xs ++ y ∷ []) is ∙ sym (take_more xs i x lt))))
