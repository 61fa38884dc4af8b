-- The laws of each part.
use Rattle.std.proofs.Common.{◌≡◌, ℕ, ◌+◌, ◌^◌, ◌<◌, ◌≤◌, Bool, true, ◌&&◌, List, [], ◌∷◌, ◌++◌, length, refl, arith}
use Rattle.mr_wire.proofs.Names.{AuthorColumn, Hole, IsColumn, IsVectorFrom, IsVersion, Name, author_at, column_at, column_bytes, column_holes_at, counter_at}
use Rattle.mr_wire.proofs.Names.{flat_map, hole_at, hole_bytes, hole_edges, le-leb, leb-true, lt-ltb, ltb-true, name_at, name_bytes, nat_le, nat_lt}
use Rattle.mr_wire.proofs.Names.{number_at, only_at, u16, u32, vector_at, vector_bytes, w16}
use Rattle.mr_concise.specs.Edges.{IsRising}
use Rattle.mr_wire.proofs.Laws.{Reads, RunFits, and_left, and_right, reads_like, reads_only, reads_as, reads_then, reads_counted, reads_run, reads_u16, reads_u32}

pub reads_author : Reads (λ n. n < 64) u16 author_at
reads_author = grind (arith, reads_like, reads_only, reads_u16, ltb-true, lt-ltb)

pub both : (a b : Bool) → a ≡ true → b ≡ true → (a && b) ≡ true
both a b p q = rw (p, q) refl

pub reads_counter : Reads (λ n. (1 ≤ n) × (n ≤ 1000000)) u32 counter_at
reads_counter = grind (arith, reads_like, reads_only, reads_u32, leb-true, and_left, and_right, both, le-leb)

pub reads_name : Reads (λ (v : Name). IsVersion v.author v.counter) name_bytes name_at
reads_name = reads_like (λ (v : Name). IsVersion v.author v.counter) name_bytes
    (reads_as (λ (p : ℕ × ℕ). record { author = p.0; counter = p.1 }) (λ (v : Name). (v.author, v.counter)) (λ v. refl) (λ p. refl) (reads_then reads_author (λ _. reads_counter)))
    (λ v h. record { author_in = h.0; counter_from = h.1.0; counter_to = h.1.1 })
    (λ v h. (h.author_in, (h.counter_from, h.counter_to))) (λ v. refl)

-- ---- vectors

abbrev pub HoleFits : ℕ → ℕ → Hole → Type 0
HoleFits upto above hole = ((hole.first < 2 ^ 32) × (hole.last < 2 ^ 32)) × (nat_lt above hole.first && nat_le hole.first hole.last && nat_lt hole.last upto ≡ true)

pub reads_hole : (upto above : ℕ) → Reads (HoleFits upto above) hole_bytes (hole_at upto above)
reads_hole upto above =
    reads_only (λ (hole : Hole). nat_lt above hole.first && nat_le hole.first hole.last && nat_lt hole.last upto)
    (reads_as (λ (p : ℕ × ℕ). record { first = p.0; last = p.1 }) (λ (h : Hole). (h.first, h.last)) (λ h. refl) (λ p. refl) (reads_then reads_u32 (λ _. reads_u32)))

abbrev pub after_hole : ℕ → Hole → ℕ
after_hole _ hole = hole.last + 1

pub holes_rise : (upto : ℕ) (holes : List Hole) (above : ℕ) → above ≤ upto → RunFits (HoleFits upto) after_hole above holes → IsRising above (hole_edges holes ++ (upto + 1) ∷ [])
holes_rise upto [] above le h = (omega arith, tt)
holes_rise upto (x ∷ xs) above le h =
    let lower = and_left (nat_lt above x.first && nat_le x.first x.last) (nat_lt x.last upto) h.0.1 in
    let a = ltb-true above x.first (and_left (nat_lt above x.first) (nat_le x.first x.last) lower) in
    let b = leb-true x.first x.last (and_right (nat_lt above x.first) (nat_le x.first x.last) lower) in
    let c = ltb-true x.last upto (and_right (nat_lt above x.first && nat_le x.first x.last) (nat_lt x.last upto) h.0.1) in
    (a, (omega arith, holes_rise upto xs (x.last + 1) (omega arith) h.1))

rising_last : (xs : List Hole) (low end : ℕ) → IsRising low (hole_edges xs ++ end ∷ []) → low < end
rising_last [] low end h = h.0
rising_last (x ∷ xs) low end h = let later = rising_last xs (x.last + 1) end h.1.1 in let a = h.0 in let b = h.1.0 in omega arith

pub holes_fit : (upto : ℕ) (holes : List Hole) (above : ℕ) → upto ≤ 1000000 → IsRising above (hole_edges holes ++ (upto + 1) ∷ []) → RunFits (HoleFits upto) after_hole above holes
holes_fit upto [] above le h = tt
holes_fit upto (x ∷ xs) above le h = grind (arith, holes_fit upto xs, rising_last, both, lt-ltb, le-leb)

-- the count of a column's holes
few_holes : Reads (λ n. n ≤ 4096) u16 (only_at (λ n. nat_le n 4096) (number_at w16))
few_holes = reads_like (λ n. n ≤ 4096) u16 (reads_only (λ n. nat_le n 4096) reads_u16) (λ n h. leb-true n 4096 h.1) (λ n h. (omega arith, le-leb n 4096 h)) (λ n. refl)

reads_column_holes : (upto : ℕ) → Reads (λ (holes : List Hole). (length holes ≤ 4096) × RunFits (HoleFits upto) after_hole 0 holes) (λ holes. u16 (length holes) ++ flat_map hole_bytes holes) (column_holes_at upto)
reads_column_holes upto = reads_counted length few_holes (λ n. reads_run after_hole (reads_hole upto) 0 n)

abbrev pub ColumnFits : ℕ → AuthorColumn → Type 0
ColumnFits low x = (low ≤ x.author) × (x.author < 64) × (1 ≤ x.column.upto) × IsColumn x.column

pub reads_column : (low : ℕ) → Reads (ColumnFits low) column_bytes (column_at low)
reads_column low =
    reads_like (ColumnFits low) column_bytes
    (reads_as (λ (p : ℕ × (ℕ × List Hole)). record { author = p.0; column = record { upto = p.1.0; holes = p.1.1 } }) (λ (x : AuthorColumn). (x.author, (x.column.upto, x.column.holes))) (λ x. refl) (λ p. refl)
    (reads_then (reads_only (λ author. nat_le low author) reads_author) (λ _. reads_then reads_counter reads_column_holes)))
    (λ x h. (leb-true low x.author h.0.1, h.0.0, h.1.0.0, record { apart = holes_rise x.column.upto x.column.holes 0 (omega arith) h.1.1.1; in_range = h.1.0.1; few = h.1.1.0 }))
    (λ x h. ((h.1, le-leb low x.author h.0), ((h.2, h.3.in_range), (h.3.few, holes_fit x.column.upto x.column.holes 0 h.3.in_range h.3.apart))))
    (λ x. refl)

abbrev pub after_column : ℕ → AuthorColumn → ℕ
after_column _ x = x.author + 1

pub columns_stand : (xs : List AuthorColumn) (low : ℕ) → RunFits ColumnFits after_column low xs → IsVectorFrom low xs
columns_stand [] low h = tt
columns_stand (x ∷ xs) low h = (h.0.0, h.0.2, h.0.3, columns_stand xs (x.author + 1) h.1, h.0.1)

columns_fit : (xs : List AuthorColumn) (low : ℕ) → IsVectorFrom low xs → RunFits ColumnFits after_column low xs
columns_fit [] low h = tt
columns_fit (x ∷ xs) low h = ((h.0, h.4, h.1, h.2), columns_fit xs (x.author + 1) h.3)

pub few_columns : (xs : List AuthorColumn) (low : ℕ) → low ≤ 64 → IsVectorFrom low xs → low + length xs ≤ 64
few_columns [] low le h = omega arith
few_columns (x ∷ xs) low le h = let a = h.0 in let b = h.4 in let c = few_columns xs (x.author + 1) (omega arith) h.3 in omega arith

pub reads_vector : Reads (IsVectorFrom 0) vector_bytes vector_at
reads_vector =
    reads_like (IsVectorFrom 0) vector_bytes (reads_counted length reads_u16 (λ n. reads_run after_column reads_column 0 n))
    (λ xs h. columns_stand xs 0 h.1)
    (λ xs h. (let few = few_columns xs 0 (omega arith) h in omega arith, columns_fit xs 0 h)) (λ xs. refl)
