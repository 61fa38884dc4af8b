use Rattle.std.proofs.Common.{◌≡◌, ◌==◌, ◌↔◌, ℕ, ap, ◌∙◌, List, arith}
use Rattle.mr_concise.proofs.Names.{AuthorColumn, Extent, Hole, IsSame, IsTrue, IsVectorFrom, and_parts, column_of, vector_has}
use Rattle.std.specs.Bool.{Decides}
use Rattle.std.specs.Cmp.{unsigned_Decides}
use Rattle.std.specs.Cmp.Lexicographic.{pointwise, pointwise_decides}
use Rattle.std.specs.Cmp.Derive.{both_true}
use Rattle.mr_concise.specs.Equal.{hole_eq, extent_eq, author_column_eq, vector_eq}
use Rattle.mr_concise.proofs.ColumnLemmas.{column_unique}
use Rattle.mr_concise.proofs.VectorLemmas.{vector_unique}
use Rattle.mr_concise.proofs.UnionLemmas.{column_of-IsColumn}

-- vectors of one meaning are one
pub vectors_same : (a b : List AuthorColumn) → IsVectorFrom 0 a → IsVectorFrom 0 b → IsSame (vector_has a) (vector_has b) → a ≡ b
vectors_same a b va vb h = vector_unique 0 0 a b va vb (λ q. column_unique (column_of a q) (column_of b q) ((column_of-IsColumn 0 a q va).apart) ((column_of-IsColumn 0 b q vb).apart) (λ c. h (record { author = q; counter = c })))

holes_Decides : (g h : Hole) → Decides (hole_eq g h) (g ≡ h)
holes_Decides g h = grind (arith, and_parts)

extents_Decides : (a b : Extent) → Decides (extent_eq a b) (a ≡ b)
extents_Decides a b = (
  λ t.
      let p = and_parts (a.upto == b.upto) (pointwise hole_eq a.holes b.holes) t in
      ap (λ (x : ℕ). record { upto = x; holes = a.holes }) ((unsigned_Decides a.upto b.upto).0 p.0) ∙ ap (λ (hs : List Hole). record { upto = b.upto; holes = hs }) ((pointwise_decides holes_Decides a.holes b.holes).0 p.1),
  λ e. both_true ((unsigned_Decides a.upto b.upto).1 (ap (λ (z : Extent). z.upto) e)) ((pointwise_decides holes_Decides a.holes b.holes).1 (ap (λ (z : Extent). z.holes) e)),
)

author_columns_Decides : (a b : AuthorColumn) → Decides (author_column_eq a b) (a ≡ b)
author_columns_Decides a b = grind (arith, and_parts, extents_Decides)

-- vectors compare equal exactly where they are one
pub vectors_Decides : (a b : List AuthorColumn) → Decides (vector_eq a b) (a ≡ b)
vectors_Decides a b = pointwise_decides author_columns_Decides a b

-- vectors compare equal exactly where their sets agree
pub vector_eq-same : (a b : List AuthorColumn) → IsVectorFrom 0 a → IsVectorFrom 0 b → IsTrue (vector_eq a b) ↔ IsSame (vector_has a) (vector_has b)
vector_eq-same a b va vb = (
  λ t v. ap (λ xs. vector_has xs v) ((pointwise_decides author_columns_Decides a b).0 t),
  λ h. (pointwise_decides author_columns_Decides a b).1 (vectors_same a b va vb h),
)
