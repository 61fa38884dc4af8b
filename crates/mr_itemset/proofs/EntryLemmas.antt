use Rattle.std.proofs.Common.{◌≡◌, ◌⊎◌, true, false, List, [], ◌∷◌, ◌++◌, Some, length, All, refl, ap, ◌∙◌, inl, inr, arith}
use Rattle.mr_itemset.proofs.Names.{All-head, All-tail, AuthorColumn, BTreeMap, IsBefore, IsOrdered, Listed, Name, Updates, cases_Bool, exact_names, get}
use Rattle.mr_itemset.proofs.Names.{insert_entry, is_at, is_some, items_of, length-map, list_any, listed_as, listed_of, name_cmp, name_eq, name_eq-symmetric}
use Rattle.mr_itemset.proofs.Names.{names_total, placed, tied_itself, unwrap_or, vector_in, vectors_of}
use Rattle.std.specs.Map.{lookup, values_of}
use Rattle.std.proofs.lemmas.Map.Lookups.{btree_map_from_get}
use Rattle.mr_itemset.proofs.NormalLemmas.{same_name}
use Rattle.mr_itemset.proofs.PlaceLemmas.{name_cases, not_lt-more, not_lt-same, same_test, other_test}

-- a map has as many entries as it lists items
pub listed_of-length : (es : List (Name × List AuthorColumn)) → length (listed_of es) ≡ length es
listed_of-length es = length-map es (λ e. listed_as e.0 e.1)

-- and its values are their vectors
pub listed_of-values : (es : List (Name × List AuthorColumn)) → values_of es ≡ vectors_of (listed_of es)
listed_of-values [] = refl
listed_of-values (e ∷ es) = ap (λ (cs : List (List AuthorColumn)). e.1 ∷ cs) (listed_of-values es)

-- an entry is put where the item has its place
pub listed_of-insert : (new : Listed) (es : List (Name × List AuthorColumn)) → listed_of (insert_entry name_cmp es new.item new.vector) ≡ placed new (listed_of es)
listed_of-insert new [] = refl
listed_of-insert new (e ∷ es) = grind (arith, listed_of-insert new es, name_cases, not_lt-more, other_test, tied_itself, names_total, not_lt-same, same_test)

-- behind lower ones an item stands last
pub placed-last : (new : Listed) (xs : List Listed) → All (λ y. IsBefore y new) xs → placed new xs ≡ xs ++ new ∷ []
placed-last new [] before = refl
placed-last new (x ∷ xs) before = rw (All-head (λ y. IsBefore y new) x xs before) (ap (λ (ys : List Listed). x ∷ ys) (placed-last new xs (All-tail (λ y. IsBefore y new) x xs before)))

-- what a search finds is the item's vector
pub vector_in-lookup : (all : List AuthorColumn) (es : List (Name × List AuthorColumn)) (i : Name) → vector_in all (listed_of es) i ≡ unwrap_or (lookup (is_at (name_cmp i)) es) all
vector_in-lookup all [] i = refl
vector_in-lookup all (e ∷ es) i = go (cases_Bool (name_eq i e.0)) (vector_in-lookup all es i)
  where
    go : (name_eq i e.0 ≡ true) ⊎ (name_eq i e.0 ≡ false) → vector_in all (listed_of es) i ≡ unwrap_or (lookup (is_at (name_cmp i)) es) all → vector_in all (listed_of (e ∷ es)) i ≡ unwrap_or (lookup (is_at (name_cmp i)) (e ∷ es)) all
    go (inl same) rest = rw (same, name_eq-symmetric e.0 i ∙ same) refl
    go (inr other) rest = rw (other, name_eq-symmetric e.0 i ∙ other) rest

-- and it finds one where the item is listed
pub listed-lookup : (es : List (Name × List AuthorColumn)) (i : Name) → is_some (lookup (is_at (name_cmp i)) es) ≡ list_any (name_eq i) (items_of (listed_of es))
listed-lookup [] i = refl
listed-lookup (e ∷ es) i = go (cases_Bool (name_eq i e.0)) (listed-lookup es i)
  where
    go : (name_eq i e.0 ≡ true) ⊎ (name_eq i e.0 ≡ false) → is_some (lookup (is_at (name_cmp i)) es) ≡ list_any (name_eq i) (items_of (listed_of es)) → is_some (lookup (is_at (name_cmp i)) (e ∷ es)) ≡ list_any (name_eq i) (items_of (listed_of (e ∷ es)))
    go (inl same) rest = rw same refl
    go (inr other) rest = rw other rest

-- what is put in and then put back is as it was
pub put_back-same : (old put back : BTreeMap Name (List AuthorColumn)) (i : Name) (vector : List AuthorColumn) → Updates name_cmp old put i (Some vector) → Updates name_cmp put back i (get name_cmp old i) → IsOrdered name_cmp old → IsOrdered name_cmp back → back.entries ≡ old.entries
put_back-same old put back i vector there again old_rising back_rising = btree_map_from_get names_total back old back_rising old_rising same exact_names
  where
    same : (q : Name) → get name_cmp back q ≡ get name_cmp old q
    same q = go (cases_Bool (name_eq i q))
      where
        go : (name_eq i q ≡ true) ⊎ (name_eq i q ≡ false) → get name_cmp back q ≡ get name_cmp old q
        go (inl here) = again.0 q ∙ rw here (ap (λ (j : Name). get name_cmp old j) (same_name i q here))
        go (inr other) = again.2 q other ∙ there.2 q other
