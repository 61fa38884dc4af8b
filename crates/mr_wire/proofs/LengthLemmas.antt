-- How many bytes parts take.
use Rattle.std.proofs.Common.{◌≡◌, ◌+◌, ◌*◌, List, [], ◌∷◌, length, refl, ap, arith}
use Rattle.mr_wire.proofs.Names.{AuthorColumn, Hole, Name, Question, ask_bytes, column_bytes, filter_bytes, flat_map, flat_map-cons, hole_bytes}
use Rattle.mr_wire.proofs.Names.{length-append, length-flat_map, name_bytes, total_len}

length-holes : (holes : List Hole) → length (flat_map hole_bytes holes) ≡ 8 * length holes
length-holes [] = refl
length-holes (x ∷ xs) = omega (arith, ap length (flat_map-cons hole_bytes x xs), length-append (hole_bytes x) (flat_map hole_bytes xs), length-holes xs)

pub length_of_column : (x : AuthorColumn) → length (column_bytes x) ≡ 8 + 8 * length x.column.holes
length_of_column x = omega (arith, length-holes x.column.holes)

pub length_of_names : (xs : List Name) → length (flat_map name_bytes xs) ≡ 6 * length xs
length_of_names [] = refl
length_of_names (x ∷ xs) = omega (arith, ap length (flat_map-cons name_bytes x xs), length-append (name_bytes x) (flat_map name_bytes xs), length_of_names xs)

pub length_of_ask : (q : Question) → length (ask_bytes q) ≡ 14 + length (filter_bytes q.filter) + total_len q.fragments
length_of_ask q = grind (arith, length-flat_map, length-append)
