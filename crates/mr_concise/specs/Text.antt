use Rattle.std.specs.Prelude.{ℕ, ◌==◌, if◌then◌else◌, List, [], ◌∷◌, ◌++◌}
use Rattle.std.specs.List.{flat_map}
use Rattle.std.specs.Fmt.{decimal}
use Rattle.mr_concise.specs.declared.column.Hole.{Hole}
use Rattle.mr_concise.specs.declared.vector.AuthorColumn.{AuthorColumn}

-- !2, or !5..7
abbrev pub hole_text : Hole → List ℕ
hole_text hole = 33 ∷ decimal hole.first ++ (if hole.first == hole.last then [] else 46 ∷ 46 ∷ decimal hole.last)

-- 0:9!2!5..7
abbrev pub column_text : AuthorColumn → List ℕ
column_text x = decimal x.author ++ 58 ∷ decimal x.column.upto ++ flat_map hole_text x.column.holes

-- columns with commas between them, or -
abbrev pub vector_text : List AuthorColumn → List ℕ
vector_text [] = 45 ∷ []
vector_text (x ∷ xs) = column_text x ++ flat_map (λ y. 44 ∷ column_text y) xs
