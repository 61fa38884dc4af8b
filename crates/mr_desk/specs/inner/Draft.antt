-- the rest of a draft's list
use Rattle.std.specs.Prelude.{ℕ, List, [], Option, Some, None}
use Rattle.std.specs.Borrow.{Bor}
use Rattle.mr_desk.specs.Draft.{parts_of}

-- the parts of what is left of it
abbrev pub parts_left : Option (Bor (List ℕ)) → List (List ℕ)
parts_left None = []
parts_left (Some rest) = parts_of rest.now
