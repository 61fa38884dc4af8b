use Rattle.std.proofs.Common.{◌≡◌, ◌&&◌, ◌==◌, arith}
use Rattle.mr_concise.proofs.Names.{Name, name_eq, nat_tests}

-- a name is the one whose parts it has
pub name_eq_parts : (a b : Name) → name_eq a b ≡ ((a.author == b.author) && (a.counter == b.counter))
name_eq_parts a b = grind (arith, nat_tests)
