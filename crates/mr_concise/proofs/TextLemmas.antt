-- what a walk writes, element by element
use Rattle.std.proofs.Common.{◌≡◌, ◌<◌, ◌+◌, ◌∙◌, ℕ, List, [], ◌++◌, ap, sym, length, take, get_or}
use Rattle.mr_concise.proofs.Names.{flat_map, flat_map_more, take_more}

-- the texts of the elements up to here, and the text of the one that is here
pub flat_map-at : {X : Type 0} (text : X → List ℕ) (xs : List X) (i : ℕ) (d : X) → i < length xs → flat_map text (take i xs) ++ text (get_or xs i d) ≡ flat_map text (take (i + 1) xs)
flat_map-at text xs i d within =
    flat_map_more text [] (take i xs) (get_or xs i d) ∙ ap (λ ys. flat_map text ys) (sym (take_more xs i d within))

pub flat_map-here : {X : Type 0} (text : X → List ℕ) (xs : List X) (i : ℕ) (x : X) → i < length xs → x ≡ get_or xs i x → flat_map text (take i xs) ++ text x ≡ flat_map text (take (i + 1) xs)
flat_map-here text xs i x within here = ap (λ y. flat_map text (take i xs) ++ text y) here ∙ flat_map-at text xs i x within
