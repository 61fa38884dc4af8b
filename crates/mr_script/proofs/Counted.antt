use Rattle.std.proofs.Common.{◌≡◌, ◌≤◌, ◌+◌, ℕ, List, Option, Some, None, length, length-append, refl, arith}
use Rattle.mr_script.proofs.Names.{Accounts, Consumes}

-- a script stays accounted for where no more is counted than is consumed
pub Accounts-Consumes : (script old new : Option (List ℕ)) (bs : List ℕ) (taken counted : ℕ) → Accounts script old taken → Consumes old new bs → counted ≤ taken + length bs → Accounts script new counted
Accounts-Consumes None old new bs taken counted was gone most = tt
Accounts-Consumes (Some script) None new bs taken counted was gone most = absurd was
Accounts-Consumes (Some script) (Some left) None bs taken counted was gone most = absurd gone
Accounts-Consumes (Some script) (Some left) (Some rest) bs taken counted was gone most =
    let lengths : length left ≡ length bs + length rest = rw (gone, length-append bs rest) refl in
    omega (arith, was, most, lengths)
