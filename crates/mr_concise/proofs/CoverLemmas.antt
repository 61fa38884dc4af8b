use Rattle.std.proofs.Common.{inl, inr, ◌⊎◌, ◌≡◌, ◌<◌, ◌≤◌, ◌+◌, ◌==◌, ℕ, Bool, true, false, nat_le, cond, ap, sym, ◌∙◌, arith, List, [], ◌∷◌, ◌++◌, length, get_or, take, suc, zero, add-one}
use Rattle.mr_concise.proofs.Names.{AuthorColumn, ColumnCovers, Covers, Extent, Hole, IsColumn, IsRising, IsVectorFrom, and_parts, and_right, cases_eq}
use Rattle.mr_concise.proofs.Names.{cases_lt, column_has, column_of, eq-eqb, false≢true, get_or_default, hole_edges, le-leb, leb-true, list_any_at}
use Rattle.mr_concise.proofs.Names.{list_any_none, ne_eqb, true≢false, vector_has}
use Rattle.mr_concise.proofs.ColumnLemmas.{column_has-edges}
use Rattle.mr_concise.proofs.UnionLemmas.{bound-on, column_has-empty, column_of-item, column_of-take_more}
use Rattle.mr_concise.proofs.LastLemmas.{column_has-above}

-- the set has nothing in the hole
abbrev pub HasNoneIn : (ℕ → Bool) → Hole → Type 0
HasNoneIn has hole = (c : ℕ) → hole.first ≤ c → c ≤ hole.last → has c ≡ false

-- nor in the holes so far
abbrev pub HasNoneInHoles : (ℕ → Bool) → List Hole → ℕ → Type 0
HasNoneInHoles has holes n = (k : ℕ) (d : Hole) → k < n → HasNoneIn has (get_or holes k d)

first-above : (low : ℕ) (holes : List Hole) (end k : ℕ) (d : Hole) → IsRising low (hole_edges holes ++ end ∷ []) → k < length holes → low < (get_or holes k d).first
first-above low [] end k d r l = absurd (omega arith)
first-above low (h ∷ hs) end zero d r l = r.0
first-above low (h ∷ hs) end (suc k) d r l = let a = r.0 in let b = r.1.0 in let ih = first-above (h.last + 1) hs end k d r.1.1 (omega arith) in omega arith

-- holes are of counters
pub hole-from_one : (column : Extent) (k : ℕ) (d : Hole) → IsColumn column → k < length column.holes → 1 ≤ (get_or column.holes k d).first
hole-from_one column k d is l = let a = first-above 0 column.holes (column.upto + 1) k d is.apart l in omega arith

-- one hole more
pub none_in-more : (has : ℕ → Bool) (hs holes : List Hole) (n : ℕ) (d : Hole) → hs ≡ holes → n < length hs → HasNoneInHoles has holes n → HasNoneIn has (get_or hs n d) → HasNoneInHoles has holes (n + 1)
none_in-more has hs holes n d e l h one k d' b = grind (arith, cases_lt, get_or_default)

-- a column has nothing in its own holes
out-of_hole : (column : Extent) (k : ℕ) (d : Hole) (c : ℕ) → k < length column.holes → (get_or column.holes k d).first ≤ c → c ≤ (get_or column.holes k d).last → column_has column c ≡ false
out-of_hole column k d c l f t = grind (arith, le-leb, list_any_at, and_right, nat_le)

-- where a column covers another one, that has nothing in its holes
pub covers-none_in : (a b : Extent) (hs : List Hole) (k : ℕ) (d : Hole) → hs ≡ a.holes → k < length hs → ColumnCovers a b → HasNoneIn (column_has b) (get_or hs k d)
covers-none_in a b hs k d e l covers c f t = grind (arith, true≢false, out-of_hole)

-- a bound that is higher
pub covers-no_higher : (a b : Extent) → IsColumn b → a.upto < b.upto → ColumnCovers a b → ⊥
covers-no_higher a b is l covers =
    let on : column_has b b.upto ≡ true = column_has-edges b b.upto is.apart (omega arith) ∙ bound-on 0 b.upto b.holes is.apart in
    true≢false (sym (covers b.upto on) ∙ column_has-above a b.upto l)

-- nothing in any hole, and no higher bound
pub covers-all : (a b : Extent) (hs : List Hole) (n : ℕ) → b.upto ≤ a.upto → hs ≡ a.holes → length hs ≤ n → HasNoneInHoles (column_has b) a.holes n → ColumnCovers a b
covers-all a b hs n le e l k c h = grind (arith, and_parts, nat_le, leb-true, le-leb, list_any_none, no, true≢false)

pub covers-begin : (a : List AuthorColumn) → Covers (vector_has a) (vector_has [])
covers-begin a v h = absurd (false≢true (sym (column_has-empty v.counter) ∙ h))

-- one column of b more
pub covers-more : (a b : List AuthorColumn) (k : ℕ) (x : AuthorColumn) → IsVectorFrom 0 b → k < length b → x ≡ get_or b k x → Covers (vector_has a) (vector_has (take k b)) → ColumnCovers (column_of a x.author) x.column → Covers (vector_has a) (vector_has (take (k + 1) b))
covers-more a b k x vb l at covers one v h = go (cases_eq x.author v.author) (rw (add-one k, column_of-take_more 0 b k x v.author vb l, ← at) at h)
  where
    go : (x.author ≡ v.author) ⊎ (x.author ≡ v.author → ⊥) → column_has (cond (x.author == v.author) x.column (column_of (take k b) v.author)) v.counter ≡ true → column_has (column_of a v.author) v.counter ≡ true
    go (inl e) y = let z : column_has x.column v.counter ≡ true = rw (eq-eqb x.author v.author e) at y in rw (← e) (one v.counter z)
    go (inr ne) y = covers v (rw (ne_eqb x.author v.author ne) at y)

pub covers-column : (a b : List AuthorColumn) (k : ℕ) (x : AuthorColumn) → IsVectorFrom 0 b → k < length b → x ≡ get_or b k x → Covers (vector_has a) (vector_has b) → ColumnCovers (column_of a x.author) x.column
covers-column a b k x vb l at covers c h = covers (record { author = x.author; counter = c }) (ap (λ (e : Extent). column_has e c) (column_of-item 0 b k x vb l at) ∙ h)
