use Rattle.std.proofs.Common.{◌≡◌, ◌<◌, ◌⊎◌, Bool, true, false, cond, ◌||◌, ◌&&◌, ◌==◌, arith}
use Rattle.mr_forms.proofs.Names.{Less, Name, cases_order, eq_by_cmp_equiv, name_cmp, name_eq, names_total, nat_tests}

pub or_comm : (a b : Bool) → (a || b) ≡ (b || a)
or_comm a b = grind arith

pub or_cond : (b x : Bool) → cond b true x ≡ (b || x)
or_cond b x = grind arith

-- a name is the one whose parts it has
pub name_eq-parts : (a b : Name) → name_eq a b ≡ ((a.author == b.author) && (a.counter == b.counter))
name_eq-parts a b = grind (arith, nat_tests)

pub name_eq-symmetric : (a b : Name) → name_eq a b ≡ name_eq b a
name_eq-symmetric a b = (eq_by_cmp_equiv names_total).symm a b

-- what the order of names says of their parts
parts_by_author : (a b : Name) → name_cmp a b ≡ Less → (a.author ≡ b.author) ⊎ ((a.author < b.author) ⊎ (b.author < a.author)) → (a.author < b.author) ⊎ ((a.author ≡ b.author) × (a.counter < b.counter))
parts_by_author a b less h = grind (arith, nat_tests)

pub parts_from_less : (a b : Name) → name_cmp a b ≡ Less → (a.author < b.author) ⊎ ((a.author ≡ b.author) × (a.counter < b.counter))
parts_from_less a b less = parts_by_author a b less (cases_order a.author b.author)

pub or_nothing : (b : Bool) → b ≡ (b || false)
or_nothing b = grind arith

-- what is added passes from what is left to what is had
pub passes_on : (new old rest total here there : Bool) → new ≡ (here || old) → there ≡ here → (old || (there || rest)) ≡ total → (new || rest) ≡ total
passes_on new old rest total here there gains same whole = grind arith

-- what passes by the last or by those before it or did before, passes by all of them or did before
pub passes_more : (new rest here before old all : Bool) → new ≡ (here || rest) → rest ≡ (before || old) → all ≡ (here || before) → new ≡ (all || old)
passes_more new rest here before old all by_here by_before joined = grind arith
