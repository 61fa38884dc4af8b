-- where nothing can leave
use Rattle.std.proofs.Common.{◌≡◌, ◌==◌, ◌&&◌, true, false, length, arith, List, [], ◌∷◌, inl, inr}
use Rattle.mr_store.proofs.Names.{AuthorColumn, Name, eqb-true, leaves}
use Rattle.mr_concise.proofs.UnionLemmas.{column_has-empty}
use Rattle.mr_store.proofs.RevisionLemmas.{either}

-- no version leaves where none are listed and no author has a column
pub none_leaves : (ones : List Name) (below : List AuthorColumn) → ((length ones == 0) && (length below == 0)) ≡ true → (v : Name) → leaves ones below v ≡ false
none_leaves [] [] empty v = column_has-empty v.counter
none_leaves [] (x ∷ xs) empty v = absurd (let none : length (x ∷ xs) ≡ 0 = eqb-true (length (x ∷ xs)) 0 empty in omega (arith, none))
none_leaves (o ∷ os) below empty v = elim (either (length (o ∷ os) == 0)) [
  | inl none ↦ absurd (let no : length (o ∷ os) ≡ 0 = eqb-true (length (o ∷ os)) 0 none in omega (arith, no))
  | inr some ↦ let no : false ≡ true = rw some at empty in cc
]
