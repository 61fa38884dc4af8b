use Rattle.std.specs.Prelude.{ℕ}
use Rattle.std.proofs.Common.{ap}
use Rattle.std.specs.Ordering.{nat_cmp}
use Rattle.std.specs.Cmp.{IsTotalOrder, nat_cmp_total}
use Rattle.std.proofs.lemmas.Cmp.{then_total, on_total}
use Rattle.std.proofs.lemmas.Map.Lookups.{CmpEqualImpliesEq, exact_pairs, exact_unsigned}
use Rattle.mr_version.specs.Name.{name_cmp}

-- names that compare alike are one
pub exact_names : CmpEqualImpliesEq name_cmp
exact_names a b h = ap (λ (p : ℕ × ℕ). record { author = p.0; counter = p.1 }) (exact_pairs nat_cmp nat_cmp exact_unsigned exact_unsigned (a.author, a.counter) (b.author, b.counter) h)

-- the order is total
pub names_total : IsTotalOrder name_cmp
names_total = then_total (on_total (λ v. v.author) nat_cmp_total) (on_total (λ v. v.counter) nat_cmp_total)
