-- lists that are taken, part by part
use Rattle.std.proofs.Common.{◌≡◌, ℕ, suc, ◌+◌, ◌<◌, List, [], ◌∷◌, ◌++◌, length, get_or, take, drop, add-one, sym, ap, ◌∙◌, append_assoc}
use Rattle.std.specs.BTreeMap.{insert_entry}
use Rattle.mr_sync.proofs.Names.{Name, PushOut, drop-cons, name_cmp, take_one, with_waiting}

-- one behind those that were put
pub put_more : (xs : List (List ℕ)) (i : ℕ) (x : List ℕ) (start old new : List (List ℕ)) → i < length xs → x ≡ get_or xs i x → old ≡ start ++ take i xs → new ≡ old ++ x ∷ [] → new ≡ start ++ take (i + 1) xs
put_more xs i x start old new within is so_far put =
    put
    ∙ ap (λ (l : List (List ℕ)). l ++ x ∷ []) so_far
    ∙ append_assoc start (take i xs) (x ∷ [])
    ∙ ap (λ (l : List (List ℕ)). start ++ l) (sym (take_one xs i x within is))

-- the end with one element more
drop_one : (xs : List PushOut) (i : ℕ) (x : PushOut) → i < length xs → x ≡ get_or xs i x → drop i xs ≡ x ∷ drop (i + 1) xs
drop_one xs i x within is = drop-cons xs i x within ∙ ap (λ (y : PushOut). y ∷ drop (suc i) xs) (sym is) ∙ ap (λ (n : ℕ). x ∷ drop n xs) (sym (add-one i))

-- one that waits, and then those that are left
pub waiting_more : (list : List PushOut) (i : ℕ) (x : PushOut) (old new all : List (Name × Name)) → i < length list → x ≡ get_or list i x → with_waiting old (drop i list) ≡ all → new ≡ insert_entry name_cmp old x.item x.version → with_waiting new (drop (i + 1) list) ≡ all
waiting_more list i x old new all within is so_far put =
    ap (λ (w : List (Name × Name)). with_waiting w (drop (i + 1) list)) put ∙ ap (with_waiting old) (sym (drop_one list i x within is)) ∙ so_far
