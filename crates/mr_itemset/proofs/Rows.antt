-- Worked rows: the texts of knowledge that was computed by hand.
use Rattle.std.proofs.Common.{◌≡◌, ℕ, refl, List, [], ◌∷◌, arith}
use Rattle.std.proofs.lemmas.Fmt.{decimal_digit}
use Rattle.mr_itemset.proofs.Names.{AuthorColumn, Hole, Listed, codes, normal_text, united}
use Rattle.mr_itemset.specs.Folded.{folded}

-- an author's versions up to this one, but for the holes
abbrev column : ℕ → ℕ → List Hole → AuthorColumn
column author upto holes = record { author = author; column = record { upto = upto; holes = holes } }

-- an item of author 0, with its vector
abbrev own : ℕ → List AuthorColumn → Listed
own counter vector = record { item = record { author = 0; counter = counter }; vector = vector }

nothing_known : normal_text (record { all = []; listed = [] }) ≡ codes "all -"
nothing_known = refl

-- 1.1 is known for two items
known_for_two : normal_text (record { all = []; listed = own 1 (column 1 1 [] ∷ []) ∷ own 2 (column 1 1 [] ∷ []) ∷ [] }) ≡ codes "all -; 0.1,0.2 1:1"
known_for_two = rw (decimal_digit 0 (omega arith), decimal_digit 1 (omega arith), decimal_digit 2 (omega arith)) refl

-- and then for all
known_for_all : normal_text (record { all = column 1 1 [] ∷ []; listed = [] }) ≡ codes "all 1:1"
known_for_all = rw (decimal_digit 1 (omega arith)) refl

-- the group of 0.3 stands between the items of another
groups_by_first_item :
    normal_text (record { all = column 0 4 [] ∷ []; listed = own 1 (column 0 4 [] ∷ column 1 1 [] ∷ []) ∷ own 3 (column 0 9 (record { first = 5; last = 7 } ∷ []) ∷ []) ∷ own 5 (column 0 4 [] ∷ column 1 1 [] ∷ []) ∷ [] })
    ≡ codes "all 0:4; 0.1,0.5 0:4,1:1; 0.3 0:9!5..7"
groups_by_first_item = rw (decimal_digit 0 (omega arith), decimal_digit 1 (omega arith), decimal_digit 3 (omega arith), decimal_digit 4 (omega arith), decimal_digit 5 (omega arith), decimal_digit 7 (omega arith), decimal_digit 9 (omega arith)) refl

-- 0.3 comes to 0.1: the counter between them is a hole
united_with_a_hole : united (column 0 1 [] ∷ []) (column 0 3 (record { first = 1; last = 2 } ∷ []) ∷ []) ≡ column 0 3 (record { first = 2; last = 2 } ∷ []) ∷ []
united_with_a_hole = refl

-- 1.1 comes to all: the item of which it was known is listed no longer, and the other one keeps its own
folded_into_all :
    folded (record { all = []; listed = own 1 (column 1 1 [] ∷ []) ∷ own 2 (column 2 1 [] ∷ []) ∷ [] }) (column 1 1 [] ∷ [])
    ≡ record { all = column 1 1 [] ∷ []; listed = own 2 (column 1 1 [] ∷ column 2 1 [] ∷ []) ∷ [] }
unfolding folded
folded_into_all = refl
