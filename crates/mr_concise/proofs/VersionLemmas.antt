use Rattle.std.proofs.Common.{◌≡◌, ◌<◌, ◌≤◌, ◌+◌, ◌==◌, ◌&&◌, ◌||◌, ℕ, Bool, true, false, refl, ap, sym, ◌∙◌, arith, List, [], ◌∷◌, ◌++◌, length, get_or, take, take_all}
use Rattle.mr_concise.proofs.Names.{AuthorColumn, Extent, HasTooManyHoles, IsSame, IsVectorFrom, Name, Versions, column_of, in_any, is_listed, list_any}
use Rattle.mr_concise.proofs.Names.{list_any-append, name_eq, take_more, vector_has, with_version}
use Rattle.mr_concise.proofs.NameLemmas.{name_eq_parts}
use Rattle.mr_concise.proofs.ColumnLemmas.{column_unique}
use Rattle.mr_concise.proofs.UnionLemmas.{column_of-IsColumn}
use Rattle.mr_concise.proofs.VectorInsertLemmas.{eq-sym}

or_comm : (a b : Bool) → (a || b) ≡ (b || a)
or_comm a b = grind arith

name_eq-sym : (a b : Name) → name_eq a b ≡ name_eq b a
name_eq-sym a b = name_eq_parts a b ∙ ap (λ x. x && (a.counter == b.counter)) (eq-sym a.author b.author) ∙ ap (λ x. (b.author == a.author) && x) (eq-sym a.counter b.counter) ∙ sym (name_eq_parts b a)

-- the versions of a list, either way round
pub in_any-names : (versions : List Name) → in_any name_eq versions ≡ is_listed versions
in_any-names versions = let h : (v w : Name) → name_eq w v ≡ name_eq v w = λ v w. name_eq-sym w v in λ i v. list_any (λ w. h v w i) versions

or_none : (b : Bool) → (b || false) ≡ b
or_none true = refl
or_none false = refl

-- one version more
pub listed-more : (versions : List Name) (k : ℕ) (x : Name) (set : Versions) → k < length versions → x ≡ get_or versions k x → IsSame set (is_listed (take k versions)) → IsSame (with_version set x) (is_listed (take (k + 1) versions))
listed-more versions k x set l at same v =
    ap (λ b. name_eq x v || b) (same v)
    ∙ or_comm (name_eq x v) (is_listed (take k versions) v)
    ∙ ap (λ b. is_listed (take k versions) v || b) (name_eq-sym x v ∙ sym (or_none (name_eq v x)))
    ∙ sym (list_any-append (name_eq v) (take k versions) (x ∷ []))
    ∙ ap (λ xs. is_listed xs v) (sym (take_more versions k x l ∙ ap (λ y. take k versions ++ y ∷ []) (sym at)))

-- at the end the set has them all
pub listed-end : (versions : List Name) (k : ℕ) (set : Versions) → length versions ≤ k → IsSame set (is_listed (take k versions)) → set ≡ is_listed versions
listed-end versions k set l same = let h : (v : Name) → set v ≡ is_listed versions v = rw (take_all k versions l) at same in λ i v. h v i

-- no column of a vector has too many holes
pub few-vector : (columns : List AuthorColumn) (set : Versions) → IsVectorFrom 0 columns → IsSame (vector_has columns) set → HasTooManyHoles set → ⊥
few-vector columns set v same many =
    let is = column_of-IsColumn 0 columns many.author v in
    let e = ap (λ (x : Extent). length x.holes) (column_unique many.column (column_of columns many.author) many.apart is.apart (λ c. many.means c ∙ sym (same (record { author = many.author; counter = c })))) in
    let few = is.few in
    let m = many.many in
    absurd (omega arith)
