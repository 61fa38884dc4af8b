-- the fold of a list's beginning, entry by entry
use Rattle.std.proofs.Common.{◌≡◌, ℕ, ◌+◌, ◌<◌, List, [], ◌∷◌, ◌++◌, take, length, get_or, add-one, ap, sym, ◌∙◌}
use Rattle.std.proofs.Math.Seq.{take-suc}
use Rattle.std.proofs.lemmas.List.{map-append}
use Rattle.mr_model.specs.Headline.{fold, fold_from, no_cards}
use Rattle.mr_feed.specs.declared.entry.Entry.{Entry}
use Rattle.mr_feed.specs.Entry.{told, told_entry}
use Rattle.mr_feed.specs.Fold.{fold_from-append}

-- one entry more
pub fold-take_more : (xs : List Entry) (i : ℕ) (x : Entry) → i < length xs → x ≡ get_or xs i x → fold (told (take (i + 1) xs)) ≡ fold_from (fold (told (take i xs))) (told (x ∷ []))
fold-take_more xs i x h e =
    ap (λ n. fold (told (take n xs))) (add-one i)
    ∙ ap (λ ys. fold (told ys)) (take-suc xs i x h)
    ∙ ap (λ y. fold (told (take i xs ++ y ∷ []))) (sym e)
    ∙ ap (λ es. fold es) (map-append told_entry (take i xs) (x ∷ []))
    ∙ fold_from-append no_cards (told (take i xs)) (told (x ∷ []))
